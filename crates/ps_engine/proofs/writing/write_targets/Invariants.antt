use Rattle.std.proofs.Common.{◌≡◌, length}
use Rattle.ps_model.specs.meaning.Compiled.{cell_written}
use Rattle.ps_program.specs.CellsShown.{write_shown}
use Rattle.ps_board.specs.ColumnSets.{set_columns}
use Rattle.ps_match.specs.InRoom.{write_in_room}
use Rattle.ps_match.specs.Together.{rewritten_where}
use Rattle.ps_match.proofs.RowWritten.{told}
use Rattle.ps_engine.proofs.WrittenBehind.{AreOf, passed_by}
use Rattle.ps_match.specs.FixedParts.{fixed_part}
use Rattle.ps_engine.proofs.writing.write_targets.Given as goal

-- the cells that are written from rows that aren't left
abbrev pub invariant-loop-row : goal.invariant-loop-row
invariant-loop-row g l =
    let start = g.B.Board.grid l.fn.board in
    let becomes = cell_written (write_in_room (g.B.Board.table l.fn.board) (write_shown l.write)) in
    record {
      among : AreOf l.fn.rows l.left;
      rewritten :
          told (g.B.Board.grid l.board) l.changed
          ≡ rewritten_where start becomes (passed_by l.offset.axis start.height l.offset.steps l.fn.rows l.row_scratch.starts.items l.left);
      fixed : fixed_part g.B.Board l.board ≡ fixed_part g.B.Board l.fn.board;
    }

abbrev pub decreases-loop-row : goal.decreases-loop-row
decreases-loop-row g l = length (set_columns l.left)
