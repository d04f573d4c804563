use Rattle.std.proofs.Common.{◌≡◌, take, fold}
use Rattle.std.specs.Prelude.{slice_set}
use Rattle.ps_model.specs.declared.pieces.Motion.TheVariants.{Still}
use Rattle.ps_model.specs.declared.pieces.Slot.TheVariants.{Holds}
use Rattle.ps_model.specs.names.Names.{layer_of}
use Rattle.ps_model.specs.board.Grid.{cell_at}
use Rattle.ps_stage.specs.CellsLoaded.{grid_with_cell}
use Rattle.ps_stage.proofs.loading.fill_cell.Given as goal

-- the objects passed by stand in the cell, and there is room as before
abbrev pub invariant-loop-object : goal.invariant-loop-object
invariant-loop-object g l =
    (g.B.Board.grid l.board
    ≡ grid_with_cell (g.B.Board.grid l.fn.board) l.cell
    (fold (λ slots object. slice_set slots (layer_of l.names object) (Holds object Still))
    (cell_at (g.B.Board.grid l.fn.board) l.cell) (take l.object-index l.objects)))
    × (g.B.Board.table l.board ≡ g.B.Board.table l.fn.board)
