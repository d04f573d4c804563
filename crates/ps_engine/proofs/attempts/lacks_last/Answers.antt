use Rattle.std.proofs.Common.{◌≡◌, ◌∙◌, ◌-◌, ◌<◌, ℕ, List, Some, ap, get_or, length, subst, sym}
use Rattle.std.specs.Prelude.{option_copied, slice_get}
use Rattle.std.proofs.lemmas.Option.{slice_get-get_or, slice_get_within}
use Rattle.ps_model.specs.declared.compiled.LayeredObject.{LayeredObject}
use Rattle.ps_match.specs.Nowhere.{IsNowhere}
use Rattle.ps_program.specs.Axes.{direction_of}
use Rattle.ps_engine.proofs.Absent.{rule_lacking}
use Rattle.ps_engine.proofs.attempts.lacks_last.Goals as goal

pub returns-in-Some : goal.returns-in-Some
returns-in-Some g c = λ e.
    let rule = c.args.rule.now in
    let objects : List LayeredObject = c.as_slice.result.now in
    let last : ℕ = length objects - 1 in
    let object : LayeredObject = c.in-Some.object.now in
    let found : slice_get objects last ≡ Some object =
    sym c.last.ensures.value ∙ ap option_copied c.in-Some.is in
    let low : last < length objects = slice_get_within objects last object found in
    let same : object ≡ get_or objects last object = cc (slice_get-get_or objects last object low, found) in
    rule_lacking (g.B.Board.grid c.args.board.now) (g.B.Board.table c.args.board.now) (direction_of rule.axis)
    rule.rows objects last object (c.as_slice.ensures ∙ rule.needs) low
    (subst (IsNowhere (g.B.Board.grid c.args.board.now)) same (c.lacks.ensures e))
