use Rattle.std.proofs.Common.{◌≡◌, ◌||◌, ◌++◌, not, take, drop}
use Rattle.ps_model.specs.board.Grid.{cell_at}
use Rattle.ps_model.specs.board.Attempts.{same_cell}
use Rattle.ps_model.specs.meaning.Compiled.{cell_written}
use Rattle.ps_program.specs.ProgramShown.{write_shown}
use Rattle.ps_match.specs.InRoom.{write_in_room}
use Rattle.ps_match.proofs.Cells.{with_cell_of}
use Rattle.ps_match.proofs.writing.write_cell.Given as goal

-- the lower layers are written
abbrev pub invariant-loop-layer : goal.invariant-loop-layer
invariant-loop-layer g l =
    let start = g.B.Board.grid l.fn.board in
    let old = cell_at start l.cell in
    let new = cell_written (write_in_room (g.B.Board.table l.fn.board) (write_shown l.write)) old in
    record {
      grid : g.B.Board.grid l.board ≡ with_cell_of start l.cell (take l.layer new ++ drop l.layer old);
      changed : (l.any || not (same_cell (drop l.layer old) (drop l.layer new))) ≡
          (l.fn.changed || not (same_cell old new));
      table : g.B.Board.table l.board ≡ g.B.Board.table l.fn.board;
      origin : g.B.Board.origin l.board ≡ g.B.Board.origin l.fn.board;
    }
