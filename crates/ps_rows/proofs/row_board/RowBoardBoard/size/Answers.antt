use Rattle.std.proofs.Common.{◌*◌}
use Rattle.ps_rows.proofs.Rests.{cells_long, slots_long}
use Rattle.ps_rows.proofs.row_board.RowBoardBoard.size.Goals as goal

pub returns-clause-shape : goal.returns-clause-shape
returns-clause-shape g c =
    let b = c.args.self.now in
    record {
      some_column = b.some_column;
      columns = b.columns;
      some_row = b.planes.some_row;
      rows = b.planes.rows;
      some_layer = b.some_layer;
      few_layers = b.few_layers;
      cells = cells_long b.members.table.items b.layers b.planes.height b.planes.words.items
          (b.width * b.planes.height);
      slots = slots_long b.members.table.items b.layers b.planes.height b.planes.words.items
          (b.width * b.planes.height);
    }
