use Rattle.std.proofs.Common.{◌≡◌, ◌<◌, ◌≤◌, take}
use Rattle.ps_model.specs.board.Grid.{cell_at}
use Rattle.ps_model.specs.session.Frames.{objects_in}
use Rattle.ps_screen.proofs.cells.top_character.Given as goal

-- all objects of the cell are those of the layers left
abbrev pub invariant-loop-layer : goal.invariant-loop-layer
invariant-loop-layer g l =
    record {
      some : 0 < l.layer;
      low : l.layer ≤ (g.B.Board.grid l.board).layers;
      under : objects_in (cell_at (g.B.Board.grid l.board) l.cell)
          ≡ objects_in (take l.layer (cell_at (g.B.Board.grid l.board) l.cell));
    }

abbrev pub decreases-loop-layer : goal.decreases-loop-layer
decreases-loop-layer g l = l.layer
