use Rattle.std.proofs.Common.{◌≡◌, ◌∙◌, Some, ap, refl, slice_get}
use Rattle.ps_solve.specs.Searches.{start_of}
use Rattle.ps_solve.specs.Situations.{IsKept, situation_of, spot_kept}
use Rattle.ps_solve.specs.declared.situations.KeptKey.{KeptKey}
use Rattle.ps_solve.specs.declared.spot_keys.SpotKey.{SpotKey}
use Rattle.ps_solve.proofs.KeptSituations.{kept_on, kept_stands, same_situations}
use Rattle.ps_solve.proofs.Standing.{if_ok}
use Rattle.ps_solve.proofs.numbered_search.NumberedSearchMoves.start.Goals as goal

pub returns-clause-known : goal.returns-clause-known
returns-clause-known g c =
    let keys = c.start.new.self.keys in
    let key : SpotKey g.row.N = c.in_ok-key.key in
    if_ok (λ (kept : KeptKey g.row.N). (kept.board ≡ key.board)
    × (slice_get c.kept_key.new.self kept.situation ≡ Some (situation_of key)))
    (λ (kept : KeptKey g.row.N). IsKept keys c.kept_key.new.self kept.board.words kept.situation)
    c.kept_key.result
    (λ kept is.
    (kept_stands keys c.kept_key.new.self key.board.words kept.board.words kept.situation (situation_of key)
    (ap (λ board. board.words) is.0) is.1 c.in_ok-key.ensures.known).0)
    c.kept_key.ensures.key

pub returns-clause-start : goal.returns-clause-start
returns-clause-start g c =
    let keys = c.start.new.self.keys in
    let key : SpotKey g.row.N = c.in_ok-key.key in
    if_ok (λ (kept : KeptKey g.row.N). (kept.board ≡ key.board)
    × (slice_get c.kept_key.new.self kept.situation ≡ Some (situation_of key)))
    (λ (kept : KeptKey g.row.N). spot_kept keys c.kept_key.new.self kept.board.words kept.situation
    ≡ start_of c.args.self.now.search)
    c.kept_key.result
    (λ kept is.
    (kept_stands keys c.kept_key.new.self key.board.words kept.board.words kept.situation (situation_of key)
    (ap (λ board. board.words) is.0) is.1 c.in_ok-key.ensures.known).1
    ∙ c.in_ok-key.ensures.start)
    c.kept_key.ensures.key

pub returns-clause-kept : goal.returns-clause-kept
returns-clause-kept g c = λ key known.
    kept_on c.args.self.now.search.keys c.start.new.self.keys c.args.self.now.situations c.kept_key.new.self
    key.board.words key.situation c.kept_key.ensures.kept
    (λ situation has.
    let own : SpotKey g.row.N = record { board = key.board; restart = situation.restart; waits = situation.waits } in
    c.start.ensures.kept own has) known

pub returns-in_err-key-clause-kept : goal.returns-in_err-key-clause-kept
returns-in_err-key-clause-kept g c = λ key known.
    kept_on c.args.self.now.search.keys c.start.new.self.keys c.args.self.now.situations c.args.self.now.situations
    key.board.words key.situation (same_situations c.args.self.now.situations c.args.self.now.situations refl)
    (λ situation has.
    let own : SpotKey g.row.N = record { board = key.board; restart = situation.restart; waits = situation.waits } in
    c.start.ensures.kept own has) known
