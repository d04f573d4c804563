use Rattle.std.proofs.Common.{List, subst, Bool, false, sym}
use Rattle.ps_model.specs.declared.compiled.LayeredObject.{LayeredObject}
use Rattle.ps_model.specs.board.Grid.{Grid}
use Rattle.ps_program.specs.ProgramShown.{mask_shown}
use Rattle.ps_rows.specs.Planes.{IsSet}
use Rattle.ps_rows.specs.Showing.{grid_shown}
use Rattle.ps_rows.specs.RowTests.{IsRowOf, held_all}
use Rattle.ps_rows.proofs.Absent.{mask_nowhere, none_within}
use Rattle.ps_rows.proofs.Scans.{mask_narrowed}
use Rattle.ps_rows.proofs.Sets.{set_where}
use Rattle.ps_rows.proofs.row_board.RowBoard.fitting_row.Goals as goal

pub returns-then-is_empty-clause-inside : goal.returns-then-is_empty-clause-inside
returns-then-is_empty-clause-inside g c =
    let b = c.args.self.now in
    let grid : Grid = grid_shown b.members.table.items b.width b.planes.height b.layers b.planes.words.items in
    let Listed : List LayeredObject → Type 0 = λ xs. IsRowOf grid c.args.row c.all_row-needed.result (held_all xs) in
    rw c.none.ensures
    (mask_nowhere grid c.args.row c.all_row-needed.result (mask_shown c.args.mask.now) b.columns
    (c.is_empty.ensures.none c.if-is_empty.true)
    (subst Listed c.as_slice.ensures c.all_row-needed.ensures.inside))

pub returns-then-is_empty-clause-within : goal.returns-then-is_empty-clause-within
returns-then-is_empty-clause-within g c =
    let b = c.args.self.now in
    rw c.none.ensures (none_within (grid_shown b.members.table.items b.width b.planes.height b.layers
    b.planes.words.items))

pub returns-then-is_empty-clause-set : goal.returns-then-is_empty-clause-set
returns-then-is_empty-clause-set g c =
    let P : List Bool → Type 0 = λ set. IsSet set in
    subst P (sym c.none.ensures) (set_where (λ x. false))

pub free_row-free-requires-clause-needed : goal.free_row-free-requires-clause-needed
free_row-free-requires-clause-needed g c =
    let b = c.args.self.now in
    let grid : Grid = grid_shown b.members.table.items b.width b.planes.height b.layers b.planes.words.items in
    let Listed : List LayeredObject → Type 0 = λ xs. IsRowOf grid c.args.row c.all_row-needed.result (held_all xs) in
    subst Listed c.as_slice.ensures c.all_row-needed.ensures.inside

pub returns-then-has_no_lists-clause-inside : goal.returns-then-has_no_lists-clause-inside
returns-then-has_no_lists-clause-inside g c =
    let b = c.args.self.now in
    let grid : Grid = grid_shown b.members.table.items b.width b.planes.height b.layers b.planes.words.items in
    mask_narrowed grid c.args.row c.free_row-free.result c.moving_as_asked.result (mask_shown c.args.mask.now)
    c.free_row-free.ensures.inside c.moving_as_asked.ensures.part

pub free_row-free-requires-clause-within : goal.free_row-free-requires-clause-within
free_row-free-requires-clause-within g c = c.all_row-needed.ensures.within

pub returns-then-has_no_lists-clause-within : goal.returns-then-has_no_lists-clause-within
returns-then-has_no_lists-clause-within g c = c.moving_as_asked.ensures.within c.free_row-free.ensures.within

pub returns-then-has_no_lists-clause-set : goal.returns-then-has_no_lists-clause-set
returns-then-has_no_lists-clause-set g c = c.moving_as_asked.ensures.set c.free_row-free.ensures.set

pub returns-clause-inside : goal.returns-clause-inside
returns-clause-inside g c =
    let b = c.args.self.now in
    let grid : Grid = grid_shown b.members.table.items b.width b.planes.height b.layers b.planes.words.items in
    mask_narrowed grid c.args.row c.free_row-free.result c.narrowed_row.result (mask_shown c.args.mask.now)
    c.free_row-free.ensures.inside c.narrowed_row.ensures.inside

pub returns-clause-within : goal.returns-clause-within
returns-clause-within g c = c.narrowed_row.ensures.within c.free_row-free.ensures.within
