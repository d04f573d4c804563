use Rattle.std.proofs.Common.{List, subst}
use Rattle.std.specs.Prelude.{All}
use Rattle.ps_model.specs.declared.compiled.LayerWrite.{LayerWrite}
use Rattle.ps_program.specs.ProgramShown.{write_shown}
use Rattle.ps_rows.specs.PutAlready.{IsPutAlready}
use Rattle.ps_rows.specs.Showing.{grid_shown}
use Rattle.ps_rows.specs.SlotsWritten.{in_columns}
use Rattle.ps_rows.proofs.PutAlready.{left_as_put}
use Rattle.ps_rows.proofs.row_board.RowBoard.leaves.Goals as goal

pub returns : goal.returns
returns g c = λ so.
    let b = c.args.self.now in
    let P : List LayerWrite → Type 0 =
    All (IsPutAlready (grid_shown b.members.table.items b.width b.planes.height b.layers b.planes.words.items)
    (in_columns b.planes.height c.args.row c.args.columns)) in
    left_as_put (grid_shown b.members.table.items b.width b.planes.height b.layers b.planes.words.items)
    b.members.table.items (in_columns b.planes.height c.args.row c.args.columns) (write_shown c.args.write.now)
    (c.takes_none.ensures c.if-not-takes_none.false) (subst P c.as_slice-writes.ensures (c.are_put.ensures so))
