use Rattle.std.proofs.Common.{◌≡◌}
use Rattle.ps_model.specs.meaning.Compiled.{cell_written}
use Rattle.ps_program.specs.ProgramShown.{write_shown}
use Rattle.ps_match.specs.InRoom.{write_in_room}
use Rattle.ps_match.specs.Together.{rewritten_where}
use Rattle.ps_match.proofs.RowWritten.{passed, told}
use Rattle.ps_match.proofs.rewriting.rewrite_row.Given as goal

-- the columns passed by are written
abbrev pub invariant-loop-column : goal.invariant-loop-column
invariant-loop-column g l =
    let start = g.B.Board.grid l.fn.board in
    let becomes = cell_written (write_in_room (g.B.Board.table l.fn.board) (write_shown l.write)) in
    record {
      rewritten : told (g.B.Board.grid l.board) l.changed ≡ rewritten_where start becomes
          (passed start.height l.row l.columns l.column);
      table : g.B.Board.table l.board ≡ g.B.Board.table l.fn.board;
      origin : g.B.Board.origin l.board ≡ g.B.Board.origin l.fn.board;
    }
