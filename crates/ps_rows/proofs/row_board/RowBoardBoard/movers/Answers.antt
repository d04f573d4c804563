use Rattle.std.proofs.Common.{◌∙◌, ◌+◌, ◌*◌, not, ◌&&◌}
use Rattle.ps_model.specs.board.Grid.{Grid, slot_at}
use Rattle.ps_board.specs.ColumnSets.{column_at}
use Rattle.ps_board.specs.RowsOfGrids.{is_moving}
use Rattle.ps_board.proofs.ColumnLaws.{columns-agree}
use Rattle.ps_rows.specs.Showing.{grid_shown}
use Rattle.ps_rows.proofs.Rests.{cells_long}
use Rattle.ps_rows.proofs.RowSets.{movers_cut}
use Rattle.ps_rows.proofs.Sets.{wide_of}
use Rattle.ps_rows.proofs.row_board.RowBoardBoard.movers.Goals as goal

pub returns : goal.returns
returns g c =
    let b = c.args.self.now in
    let grid : Grid = grid_shown b.members.table.items b.width b.planes.height b.layers b.planes.words.items in
    c.without.ensures
    ∙ columns-agree (λ x. column_at b.all_columns x && not (column_at c.motion_row.result x)) (λ x.
    is_moving (slot_at grid (x * b.planes.height + c.args.row) c.args.layer.0))
    (movers_cut grid c.args.row c.args.layer.0 b.all_columns c.motion_row.result
    (cells_long b.members.table.items b.layers b.planes.height b.planes.words.items (b.width * b.planes.height))
    (wide_of b.all_columns b.width b.all) c.motion_row.ensures)
