use Rattle.std.proofs.Common.{◌+◌, ◌*◌, ◌&&◌, ◌∙◌, Bool, false, List, subst, sym, ap, arith}
use Rattle.ps_model.specs.declared.compiled.LayeredObject.{LayeredObject}
use Rattle.ps_model.specs.declared.compiled.MotionTest.{MotionTest}
use Rattle.ps_program.specs.ProgramShown.{mask_shown}
use Rattle.ps_model.specs.board.Grid.{Grid, cell_at}
use Rattle.ps_board.specs.ColumnSets.{column_at}
use Rattle.ps_board.proofs.ColumnLaws.{none_in}
use Rattle.ps_rows.specs.Planes.{IsSet}
use Rattle.ps_rows.specs.Showing.{grid_shown}
use Rattle.ps_rows.specs.RowTests.{held_of_each, moved_all, narrowed}
use Rattle.ps_rows.specs.RowsKept.{IsKept}
use Rattle.ps_rows.proofs.RowsKept.{kept_narrowed}
use Rattle.ps_rows.proofs.Sets.{none_at, set_where}
use Rattle.ps_rows.proofs.row_board.RowBoard.narrowed_row.Goals as goal

pub returns-then-is_empty-clause-inside : goal.returns-then-is_empty-clause-inside
returns-then-is_empty-clause-inside g c = λ x across.
    let b = c.args.self.now in
    let grid : Grid = grid_shown b.members.table.items b.width b.planes.height b.layers b.planes.words.items in
    let asked : Bool = narrowed (mask_shown c.args.mask.now) (cell_at grid (x * b.planes.height + c.args.row)) in
    ap (λ (set : List Bool). column_at set x) c.none.ensures ∙ none_at x
    ∙ sym (ap (λ (t : Bool). t && asked)
    (none_in c.args.columns x (c.is_empty.ensures.none c.if-is_empty.true) (omega (arith, across, b.columns))))

pub returns-then-is_empty-clause-within : goal.returns-then-is_empty-clause-within
returns-then-is_empty-clause-within g c = λ within x off low.
    ap (λ (set : List Bool). column_at set x) c.none.ensures ∙ none_at x

pub returns-then-is_empty-clause-set : goal.returns-then-is_empty-clause-set
returns-then-is_empty-clause-set g c =
    let P : List Bool → Type 0 = λ set. IsSet set in
    subst P (sym c.none.ensures) (set_where (λ x. false))

pub returns-clause-inside : goal.returns-clause-inside
returns-clause-inside g c =
    let b = c.args.self.now in
    let grid : Grid = grid_shown b.members.table.items b.width b.planes.height b.layers b.planes.words.items in
    let mask = mask_shown c.args.mask.now in
    let Moving : List MotionTest → Type 0 = λ xs. IsKept grid c.args.row c.args.columns c.moving_of-moving.result
    (moved_all xs) in
    let Listed : List (List LayeredObject) → Type 0 = λ xs. IsKept grid c.args.row c.moving_of-moving.result
    c.listed_row.result (held_of_each xs) in
    (kept_narrowed grid c.args.row c.args.columns c.moving_of-moving.result c.listed_row.result mask
    (subst Moving c.as_slice.ensures c.moving_of-moving.ensures)
    (subst Listed c.as_slice-2.ensures c.listed_row.ensures.kept)).part

pub returns-clause-within : goal.returns-clause-within
returns-clause-within g c = λ within.
    c.listed_row.ensures.kept.within (c.moving_of-moving.ensures.within within)

pub returns-clause-set : goal.returns-clause-set
returns-clause-set g c = c.listed_row.ensures.set
