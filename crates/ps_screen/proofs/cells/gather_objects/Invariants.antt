use Rattle.std.proofs.Common.{◌≡◌, take}
use Rattle.ps_model.specs.board.Grid.{cell_at}
use Rattle.ps_model.specs.session.Frames.{objects_in}
use Rattle.ps_screen.proofs.cells.gather_objects.Given as goal

-- the objects of the layers passed by
abbrev pub invariant-loop-layer : goal.invariant-loop-layer
invariant-loop-layer g l = l.objects.items ≡ objects_in (take l.layer (cell_at (g.B.Board.grid l.board) l.cell))
