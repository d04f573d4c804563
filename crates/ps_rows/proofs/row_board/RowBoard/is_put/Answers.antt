use Rattle.ps_rows.specs.PutAlready.{on_its_layer}
use Rattle.ps_rows.specs.RowTests.{held}
use Rattle.ps_rows.specs.Showing.{grid_shown}
use Rattle.ps_rows.proofs.PutAlready.{passed_there}
use Rattle.ps_rows.proofs.row_board.RowBoard.is_put.Goals as goal

pub returns : goal.returns
returns g c = λ so.
    let b = c.args.self.now in
    record {
      object = c.in-Put.object;
      puts = c.in-Put.is;
      there =
          passed_there (grid_shown b.members.table.items b.width b.planes.height b.layers b.planes.words.items)
          c.args.row c.args.columns c.object_row.result c.without.result
          (held (on_its_layer c.in-Put.object c.args.each.now)) b.planes.some_row b.columns c.object_row.ensures
          c.without.ensures (c.is_empty.ensures.none c.if-not-is_empty.false);
      moves = c.moves_so.ensures so;
    }
