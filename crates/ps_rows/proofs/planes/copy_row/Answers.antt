use Rattle.std.proofs.Common.{rules, ◌+◌, ◌*◌, ◌<◌, ◌∙◌, ℕ, List, Bool, length, refl, arith, subst}
use Rattle.std.specs.Prelude.{slice_set}
use Rattle.std.proofs.lemmas.List.{get_or_read, length-set}
use Rattle.ps_board.specs.ColumnSets.{no_columns}
use Rattle.ps_rows.specs.PlaneCopies.{IsRowCopied}
use Rattle.ps_rows.proofs.Passed.{next_enough, own_order, same_order}
use Rattle.ps_rows.proofs.RowChanges.{place_in}
use Rattle.ps_rows.proofs.RowCopies.{no_row_copied, row_more}
use Rattle.ps_rows.proofs.planes.copy_row.Goals as goal

pub loop-plane-init : goal.loop-plane-init
loop-plane-init g c = (no_row_copied c.args.height c.args.row c.args.words.now c.args.others.now, refl)

pub offset_bounds-words-place : goal.offset_bounds-words-place
offset_bounds-words-place g c =
    let within = place_in c.args.height c.loop-plane.plane c.args.row (length c.args.words.now) c.requires.row
    (next_enough c.args.height c.loop-plane.plane c.args.planes c.args.planes (length c.args.words.now)
    (length c.args.words.now) c.loop-plane-test.true (own_order c.args.planes) c.requires.here refl) in
    omega (arith, within)

pub bounds-words-place : goal.bounds-words-place
bounds-words-place g c =
    place_in c.args.height c.loop-plane.plane c.args.row (length c.args.words.now) c.requires.row
    (next_enough c.args.height c.loop-plane.plane c.args.planes c.args.planes (length c.args.words.now)
    (length c.args.words.now) c.loop-plane-test.true (own_order c.args.planes) c.requires.here refl)

pub offset_bounds-others-place : goal.offset_bounds-others-place
offset_bounds-others-place g c =
    let within : c.loop-plane.plane * c.args.height + c.args.row < length c.args.others.now =
    place_in c.args.height c.loop-plane.plane c.args.row (length c.args.others.now) c.requires.row
    (next_enough c.args.height c.loop-plane.plane c.args.planes c.args.planes (length c.args.others.now)
    (length c.args.others.now) c.loop-plane-test.true (own_order c.args.planes) c.requires.there refl) in
    search rules

pub bounds-others-place : goal.bounds-others-place
bounds-others-place g c =
    place_in c.args.height c.loop-plane.plane c.args.row (length c.loop-plane.others) c.requires.row
    (next_enough c.args.height c.loop-plane.plane c.args.planes c.args.planes (length c.args.others.now)
    (length c.loop-plane.others) c.loop-plane-test.true (own_order c.args.planes) c.requires.there
    c.loop-plane.invariant.1)

pub loop-plane-preserved : goal.loop-plane-preserved
loop-plane-preserved g c =
    let height : ℕ = c.args.height in
    let plane : ℕ = c.loop-plane.plane in
    let row : ℕ = c.args.row in
    let word : List Bool = c.index-words-place.result in
    let now : List (List Bool) = c.loop-plane.others in
    let order = own_order c.args.planes in
    let here : plane * height + row < length c.args.words.now =
    place_in height plane row (length c.args.words.now) c.requires.row
    (next_enough height plane c.args.planes c.args.planes (length c.args.words.now) (length c.args.words.now)
    c.loop-plane-test.true order c.requires.here refl) in
    let enough = next_enough height plane c.args.planes c.args.planes (length c.args.others.now) (length now)
    c.loop-plane-test.true order c.requires.there c.loop-plane.invariant.1 in (
      row_more height plane row word c.args.words.now c.args.others.now now
          (slice_set now (plane * height + row) word) c.requires.row enough refl
          (get_or_read c.args.words.now (plane * height + row) word here c.index-words-place.is no_columns)
          c.loop-plane.invariant.0,
      length-set now (plane * height + row) word ∙ c.loop-plane.invariant.1,
    )

pub returns-clause-row : goal.returns-clause-row
returns-clause-row g c =
    let P : ℕ → Type 0 = λ end. IsRowCopied c.args.height end c.args.row c.args.words.now c.args.others.now
    c.loop-plane.others in
    subst P (same_order c.loop-plane.plane c.args.planes c.loop-plane.auto.plane-end c.loop-plane-test.false)
    c.loop-plane.invariant.0
