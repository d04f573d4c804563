use Rattle.std.proofs.Common.{◌∙◌, Option, Some, ap, refl, sym}
use Rattle.ps_model.specs.session.Solving.{Spot, next_spot}
use Rattle.ps_search.specs.declared.moves.Step.TheVariants.{Past, Same, To}
use Rattle.ps_solve.specs.Searches.{SearchValue, here_of, played_by}
use Rattle.ps_solve.specs.Situations.{situation_of}
use Rattle.ps_solve.specs.SpotKeys.{IsSpotKey, KeyTable, spot_at}
use Rattle.ps_solve.specs.declared.spot_keys.SpotKey.{SpotKey}
use Rattle.ps_solve.proofs.KeptSituations.{kept_on, kept_stands, same_situations, step_told}
use Rattle.ps_solve.proofs.numbered_search.NumberedSearchMoves.step.Goals as goal

pub returns-in-Ok-Same-clause-led : goal.returns-in-Ok-Same-clause-led
returns-in-Ok-Same-clause-led g c =
    let keys : KeyTable = c.step.new.self.keys in
    let before : SearchValue = c.args.self.now.search in
    step_told (λ (key : SpotKey g.row.N). IsSpotKey keys key.board.words key.restart)
    (λ (key : SpotKey g.row.N). spot_at keys key.board.words key.restart key.waits) (here_of before)
    (next_spot (played_by before) 0 (here_of before) c.args.input) c.in-Ok-Same.field-0 Same
    c.in-Ok-Same.ensures.led c.in-Ok-Same.field-0-is

pub returns-in-Ok-Past-clause-led : goal.returns-in-Ok-Past-clause-led
returns-in-Ok-Past-clause-led g c =
    let keys : KeyTable = c.step.new.self.keys in
    let before : SearchValue = c.args.self.now.search in
    step_told (λ (key : SpotKey g.row.N). IsSpotKey keys key.board.words key.restart)
    (λ (key : SpotKey g.row.N). spot_at keys key.board.words key.restart key.waits) (here_of before)
    (next_spot (played_by before) 0 (here_of before) c.args.input) c.in-Ok-Past.field-0 Past
    c.in-Ok-Past.ensures.led c.in-Ok-Past.field-0-is

pub returns-in-Ok-clause-led : goal.returns-in-Ok-clause-led
returns-in-Ok-clause-led g c =
    let keys : KeyTable = c.step.new.self.keys in
    let before : SearchValue = c.args.self.now.search in
    let key : SpotKey g.row.N = c.in-Ok-To.key in
    let led : Option Spot = next_spot (played_by before) 0 (here_of before) c.args.input in
    let to =
    step_told (λ (key : SpotKey g.row.N). IsSpotKey keys key.board.words key.restart)
    (λ (key : SpotKey g.row.N). spot_at keys key.board.words key.restart key.waits) (here_of before) led
    c.in-Ok-To.field-0 (To key) c.in-Ok-To.ensures.led c.in-Ok-To.field-0-is in
    let stands =
    kept_stands keys c.kept_key.new.self key.board.words c.in-Ok.kept.board.words c.in-Ok.kept.situation
    (situation_of key) (ap (λ board. board.words) c.in-Ok.ensures.key.0) c.in-Ok.ensures.key.1 to.0 in
    (stands.0, to.1 ∙ ap (λ (s : Spot). Some s) (sym stands.1))

pub returns-in-Err-clause-kept : goal.returns-in-Err-clause-kept
returns-in-Err-clause-kept g c = λ key known.
    kept_on c.args.self.now.search.keys c.step.new.self.keys c.args.self.now.situations c.args.self.now.situations
    key.board.words key.situation (same_situations c.args.self.now.situations c.args.self.now.situations refl)
    (λ situation has.
    let own : SpotKey g.row.N = record { board = key.board; restart = situation.restart; waits = situation.waits } in
    c.step.ensures.kept own has) known

pub returns-in-Ok-Same-clause-kept : goal.returns-in-Ok-Same-clause-kept
returns-in-Ok-Same-clause-kept g c = λ key known.
    kept_on c.args.self.now.search.keys c.step.new.self.keys c.args.self.now.situations c.args.self.now.situations
    key.board.words key.situation (same_situations c.args.self.now.situations c.args.self.now.situations refl)
    (λ situation has.
    let own : SpotKey g.row.N = record { board = key.board; restart = situation.restart; waits = situation.waits } in
    c.step.ensures.kept own has) known

pub returns-in-Ok-Past-clause-kept : goal.returns-in-Ok-Past-clause-kept
returns-in-Ok-Past-clause-kept g c = λ key known.
    kept_on c.args.self.now.search.keys c.step.new.self.keys c.args.self.now.situations c.args.self.now.situations
    key.board.words key.situation (same_situations c.args.self.now.situations c.args.self.now.situations refl)
    (λ situation has.
    let own : SpotKey g.row.N = record { board = key.board; restart = situation.restart; waits = situation.waits } in
    c.step.ensures.kept own has) known

pub returns-in-Ok-clause-kept : goal.returns-in-Ok-clause-kept
returns-in-Ok-clause-kept g c = λ key known.
    kept_on c.args.self.now.search.keys c.step.new.self.keys c.args.self.now.situations c.kept_key.new.self
    key.board.words key.situation c.kept_key.ensures.kept
    (λ situation has.
    let own : SpotKey g.row.N = record { board = key.board; restart = situation.restart; waits = situation.waits } in
    c.step.ensures.kept own has) known

pub returns-in-Err-kept_key-clause-kept : goal.returns-in-Err-kept_key-clause-kept
returns-in-Err-kept_key-clause-kept g c = λ key known.
    kept_on c.args.self.now.search.keys c.step.new.self.keys c.args.self.now.situations c.kept_key.new.self
    key.board.words key.situation c.kept_key.ensures.kept
    (λ situation has.
    let own : SpotKey g.row.N = record { board = key.board; restart = situation.restart; waits = situation.waits } in
    c.step.ensures.kept own has) known
