use Rattle.std.proofs.Common.{◌*◌, rules}
use Rattle.ps_board.proofs.Cells.{length-first_chunks, first_chunks-length}
use Rattle.ps_board.proofs.list_board.ListBoardBoard.size.Goals as goal

pub returns-clause-shape : goal.returns-clause-shape
returns-clause-shape c =
    let board = c.args.self.now in
    record {
      some_column = board.some_column;
      columns = board.columns;
      some_row = board.some_row;
      rows = board.rows;
      some_layer = board.some_layer;
      few_layers = board.few_layers;
      cells = length-first_chunks board.layers (board.width * board.height) board.slots.items;
      slots = first_chunks-length board.layers (board.width * board.height) board.slots.items (search rules);
    }
