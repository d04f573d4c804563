use Rattle.std.proofs.Common.{◌≡◌, take, true}
use Rattle.std.specs.List.{list_all}
use Rattle.ps_model.specs.declared.pieces.ObjectId.{ObjectId}
use Rattle.ps_model.specs.board.Grid.{cell_at}
use Rattle.ps_model.specs.session.Frames.{objects_in}
use Rattle.ps_screen.specs.Glyphs.{stands_apart}
use Rattle.ps_screen.proofs.cells.mixes_below.Given as goal

-- each object stands apart from those of the layers passed by
abbrev pub invariant-loop-below : goal.invariant-loop-below
invariant-loop-below g l =
    (object : ObjectId) → list_all (stands_apart l.look.glyphs object)
    (objects_in (take l.below (cell_at (g.B.Board.grid l.board) l.cell))) ≡ true
