use Rattle.std.proofs.Common.{◌&&◌, Bool, List, subst, sym}
use Rattle.ps_model.specs.board.Grid.{Grid}
use Rattle.ps_program.specs.ProgramShown.{mask_shown}
use Rattle.ps_board.specs.ColumnSets.{column_at}
use Rattle.ps_rows.specs.Planes.{IsSet}
use Rattle.ps_rows.specs.RowTests.{IsWithin}
use Rattle.ps_rows.specs.Showing.{grid_shown}
use Rattle.ps_rows.proofs.Scans.{alone_free, both_within, full_within, mask_narrowed}
use Rattle.ps_rows.proofs.Sets.{set_where}
use Rattle.ps_rows.proofs.row_board.RowBoard.plain_row.Goals as goal

pub returns-clause-inside : goal.returns-clause-inside
returns-clause-inside g c =
    let b = c.args.self.now in
    let grid : Grid = grid_shown b.members.table.items b.width b.planes.height b.layers b.planes.words.items in
    let mask = mask_shown c.args.mask.now in
    mask_narrowed grid c.args.row c.both-word.result c.moving_as_asked.result mask
    (alone_free grid c.args.row b.all_columns c.object_row.result c.both-word.result c.args.sought.now mask b.columns
    b.all c.requires.needed c.requires.barred c.object_row.ensures c.both-word.ensures)
    c.moving_as_asked.ensures.part

pub returns-clause-within : goal.returns-clause-within
returns-clause-within g c =
    let b = c.args.self.now in
    let grid : Grid = grid_shown b.members.table.items b.width b.planes.height b.layers b.planes.words.items in
    let P : List Bool → Type 0 = λ set. IsWithin grid set in
    c.moving_as_asked.ensures.within (subst P (sym c.both-word.ensures)
    (both_within grid b.all_columns c.object_row.result (full_within grid b.all_columns b.all)))

pub returns-clause-set : goal.returns-clause-set
returns-clause-set g c =
    let P : List Bool → Type 0 = λ set. IsSet set in
    c.moving_as_asked.ensures.set (subst P (sym c.both-word.ensures) (set_where (λ x.
    column_at c.args.self.now.all_columns x && column_at c.object_row.result x)))
