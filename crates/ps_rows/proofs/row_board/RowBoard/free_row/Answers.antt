use Rattle.std.proofs.Common.{List, subst, Bool, sym, not, ◌&&◌}
use Rattle.ps_model.specs.declared.compiled.LayeredObject.{LayeredObject}
use Rattle.ps_model.specs.board.Grid.{Grid}
use Rattle.ps_program.specs.ProgramShown.{mask_shown}
use Rattle.ps_board.specs.ColumnSets.{column_at}
use Rattle.ps_rows.specs.Planes.{IsSet}
use Rattle.ps_rows.specs.Showing.{grid_shown}
use Rattle.ps_rows.specs.RowTests.{IsRowOf, held_any}
use Rattle.ps_rows.proofs.Scans.{free_inside, free_within}
use Rattle.ps_rows.proofs.Sets.{set_where}
use Rattle.ps_rows.proofs.row_board.RowBoard.free_row.Goals as goal

pub returns-clause-inside : goal.returns-clause-inside
returns-clause-inside g c =
    let b = c.args.self.now in
    let grid : Grid = grid_shown b.members.table.items b.width b.planes.height b.layers b.planes.words.items in
    let Barred : List LayeredObject → Type 0 = λ xs. IsRowOf grid c.args.row c.any_row-barred.result (held_any xs) in
    rw c.without.ensures
    (free_inside grid c.args.row c.args.needed c.any_row-barred.result (mask_shown c.args.mask.now) b.columns
    c.requires.needed (subst Barred c.as_slice.ensures c.any_row-barred.ensures))

pub returns-clause-within : goal.returns-clause-within
returns-clause-within g c =
    let b = c.args.self.now in
    let grid : Grid = grid_shown b.members.table.items b.width b.planes.height b.layers b.planes.words.items in
    rw c.without.ensures (free_within grid c.args.needed c.any_row-barred.result c.requires.within)

pub returns-clause-set : goal.returns-clause-set
returns-clause-set g c =
    let P : List Bool → Type 0 = λ set. IsSet set in
    subst P (sym c.without.ensures) (set_where (λ x.
    column_at c.args.needed x && not (column_at c.any_row-barred.result x)))
