use Rattle.std.proofs.Common.{◌∙◌, ◌+◌, ◌*◌, refl, ◌&&◌}
use Rattle.ps_model.specs.board.Grid.{Grid, slot_at}
use Rattle.ps_model.specs.meaning.Compiled.{slot_holds}
use Rattle.ps_board.specs.ColumnSets.{column_at}
use Rattle.ps_board.proofs.ColumnLaws.{columns-agree}
use Rattle.ps_rows.specs.Showing.{grid_shown}
use Rattle.ps_rows.proofs.Rests.{cells_long}
use Rattle.ps_rows.proofs.RowSets.{row_cut}
use Rattle.ps_rows.proofs.Sets.{wide_of}
use Rattle.ps_rows.proofs.row_board.RowBoardBoard.holders.Goals as goal

pub returns : goal.returns
returns g c =
    let b = c.args.self.now in
    let grid : Grid = grid_shown b.members.table.items b.width b.planes.height b.layers b.planes.words.items in
    c.both.ensures
    ∙ columns-agree (λ x. column_at b.all_columns x && column_at c.object_row.result x) (λ x.
    slot_holds c.args.object (slot_at grid (x * b.planes.height + c.args.row) c.args.layer.0))
    (row_cut grid c.args.row c.args.layer.0 b.all_columns c.object_row.result (slot_holds c.args.object)
    (cells_long b.members.table.items b.layers b.planes.height b.planes.words.items (b.width * b.planes.height))
    (wide_of b.all_columns b.width b.all) c.object_row.ensures refl)
