use Rattle.std.proofs.Common.{◌<◌, ◌≤◌, ◌∙◌, ℕ, List, Bool, length, refl, ap₂, subst, arith}
use Rattle.std.specs.Prelude.{slice_set}
use Rattle.std.proofs.lemmas.List.{get_or_read, length-set}
use Rattle.ps_board.specs.ColumnSets.{either_columns, no_columns}
use Rattle.ps_rows.specs.PlaneCopies.{AreMarksTaken}
use Rattle.ps_rows.proofs.Passed.{same_order}
use Rattle.ps_rows.proofs.RowsOfPlanes.{marks_more, no_marks}
use Rattle.ps_rows.proofs.planes.take_marks.Goals as goal

below_end : (plane end long : ℕ) → plane < end → end ≤ long → plane < long
below_end plane end long below within = omega arith

pub loop-plane-init : goal.loop-plane-init
loop-plane-init g c = (no_marks c.args.rows c.args.index.now c.args.others.now, refl)

pub loop-plane-preserved : goal.loop-plane-preserved
loop-plane-preserved g c =
    let plane : ℕ = c.loop-plane.plane in
    let now : List (List Bool) = c.loop-plane.others in
    let there : plane < length now = rw c.loop-plane.invariant.1 (below_end plane c.args.planes
    (length c.args.others.now) c.loop-plane-test.true c.requires.there) in
    let here : plane < length c.args.index.now = below_end plane c.args.planes (length c.args.index.now)
    c.loop-plane-test.true c.requires.here in (
      marks_more plane c.args.rows c.either.result c.index-others-plane.result c.index-index-plane.result
          c.args.index.now c.args.others.now now (slice_set now plane c.either.result) there refl
          (c.either.ensures ∙ ap₂ either_columns c.without.ensures c.both.ensures)
          (get_or_read now plane c.index-others-plane.result there c.index-others-plane.is no_columns)
          (get_or_read c.args.index.now plane c.index-index-plane.result here c.index-index-plane.is no_columns)
          c.loop-plane.invariant.0,
      length-set now plane c.either.result ∙ c.loop-plane.invariant.1,
    )

pub returns-clause-marks : goal.returns-clause-marks
returns-clause-marks g c =
    let P : ℕ → Type 0 = λ end. AreMarksTaken end c.args.rows c.args.index.now c.args.others.now c.loop-plane.others in
    subst P (same_order c.loop-plane.plane c.args.planes c.loop-plane.auto.plane-end c.loop-plane-test.false)
    c.loop-plane.invariant.0
