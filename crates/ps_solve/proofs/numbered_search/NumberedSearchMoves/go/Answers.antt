use Rattle.std.proofs.Common.{◌∙◌, ap, refl, rules}
use Rattle.std.proofs.lemmas.Result.{on_ok_weaker}
use Rattle.ps_solve.specs.Situations.{situation_of}
use Rattle.ps_solve.specs.declared.spot_keys.SpotKey.{SpotKey}
use Rattle.ps_solve.proofs.KeyRooms.{spot_key_room}
use Rattle.ps_solve.proofs.KeptSituations.{key_known, key_stands, kept_on, number_within, same_situations}
use Rattle.ps_solve.proofs.numbered_search.NumberedSearchMoves.go.Goals as goal

pub spot_key-key-requires : goal.spot_key-key-requires
spot_key-key-requires g c = (
  search rules,
  (
    spot_key_room _ c.args.self.now.narrow,
    (
      c.args.self.now.narrow,
      number_within c.args.self.now.search.keys c.args.self.now.situations c.args.key.now.board.words
          c.args.key.now.situation c.requires,
    ),
  ),
)

pub go-requires : goal.go-requires
go-requires g c = (
  search rules,
  (
    spot_key_room _ c.args.self.now.narrow,
    key_known c.args.self.now.search.keys c.args.self.now.situations c.args.key.now.board.words
        c.spot_key-key.result.board.words c.args.key.now.situation (situation_of c.spot_key-key.result)
        (ap (λ board. board.words) c.spot_key-key.ensures.board) c.spot_key-key.ensures.situation c.requires,
  ),
)

pub returns-clause-here : goal.returns-clause-here
returns-clause-here g c =
    on_ok_weaker c.go.result
    (λ here. here
    ∙ key_stands c.args.self.now.search.keys c.args.self.now.situations c.args.key.now.board.words
    c.spot_key-key.result.board.words c.args.key.now.situation (situation_of c.spot_key-key.result)
    (ap (λ board. board.words) c.spot_key-key.ensures.board) c.spot_key-key.ensures.situation)
    c.go.ensures.here

pub returns-clause-kept : goal.returns-clause-kept
returns-clause-kept g c = λ key known.
    kept_on c.args.self.now.search.keys c.go.new.self.keys c.args.self.now.situations c.args.self.now.situations
    key.board.words key.situation (same_situations c.args.self.now.situations c.args.self.now.situations refl)
    (λ situation has.
    let own : SpotKey g.row.N = record { board = key.board; restart = situation.restart; waits = situation.waits } in
    c.go.ensures.kept own has) known
