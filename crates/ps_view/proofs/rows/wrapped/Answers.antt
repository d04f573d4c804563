use Rattle.std.proofs.Common.{◌∙◌, ◌+◌, ◌-◌, ◌<◌, ℕ, length, min, sym, ap, ap₂, arith, take, drop}
use Rattle.ps_view.specs.Rows.{fitting}
use Rattle.ps_view.proofs.WordRows.{none_yet, all_rows, one_row_more}
use Rattle.ps_view.proofs.rows.wrapped.Goals as goal

pub loop-row-init : goal.loop-row-init
loop-row-init c =
    none_yet c.args.columns (length c.args.text.now + 1 - 0) c.args.text.now c.new-rows.result.items
    c.new-rows.ensures.items (omega arith)

pub returns-then-room-rest : goal.returns-then-room-rest
returns-then-room-rest c =
    all_rows (length c.args.text.now + 1 - c.loop-row._row) c.args.columns c.loop-row.rest.now c.loop-row.rows.items
    c.add_row.new.rows.items _ (omega (arith, c.loop-row-test.true)) (sym c.fitting-room.ensures.count ∙ c.if-room-rest.true)
    c.loop-row.invariant c.in_ok-add_row.ensures

pub loop-row-preserved : goal.loop-row-preserved
loop-row-preserved c =
    let columns = c.args.columns in
    let rest = c.loop-row.rest.now in
    let short : c.loop-row._row < length c.args.text.now + 1 = c.loop-row-test.true in
    let long : fitting columns rest < length rest =
    omega (arith, c.fitting-room.ensures.count, c.fitting-room.ensures.within, c.if-room-rest.false) in
    one_row_more (length c.args.text.now + 1 - c.loop-row._row) (length c.args.text.now + 1 - (c.loop-row._row + 1))
    columns rest c.split_at.result.0.now c.split_at-in-loop-row.result.1.now c.loop-row.rows.items
    c.add_row-in-loop-row.new.rows.items _ (omega (arith, short)) long
    (c.split_at.ensures.front
    ∙ ap (λ (n : ℕ). take n rest) (c.min.ensures ∙ ap₂ min c.fitting-room.ensures.count c.break_of-place.ensures.place))
    (c.split_at-in-loop-row.ensures.back ∙ ap (λ (n : ℕ). drop n rest) c.break_of-place.ensures.place)
    c.loop-row.invariant c.in_ok-add_row-2.ensures
