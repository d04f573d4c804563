use Rattle.std.proofs.Common.{◌≡◌, ◌∙◌, false, sym, rules}
use Rattle.std.specs.Prelude.{slice_get}
use Rattle.ps_model.specs.board.Attempts.{Rewritten}
use Rattle.ps_model.specs.board.Grid.{Grid}
use Rattle.ps_places.proofs.CellsInTurn.{rewritten_by_write}
use Rattle.ps_places.proofs.WrittenToItself.{idle_cell}
use Rattle.ps_places.proofs.parts.write_fitting.Goals as goal

pub returns-then-cell-clause-rewritten : goal.returns-then-cell-clause-rewritten
returns-then-cell-clause-rewritten g c =
    let grid : Grid = g.B.Board.grid c.args.board.now in
    let before : Rewritten = record { grid = grid; changed = c.args.changed } in
    c.write.ensures.rewritten
    ∙ rewritten_by_write before (g.B.Board.table c.args.board.now) c.args.cell.now c.args.number
    (slice_get grid.cells c.args.number)

pub returns-else-cell-clause-rewritten : goal.returns-else-cell-clause-rewritten
returns-else-cell-clause-rewritten g c =
    let grid : Grid = g.B.Board.grid c.args.board.now in
    let before : Rewritten = record { grid = grid; changed = c.args.changed } in
    let idle : c.args.cell.now.changes ≡ false = search rules in
    sym (idle_cell before (g.B.Board.table c.args.board.now) c.args.cell.now c.args.number
    (slice_get grid.cells c.args.number) idle (search rules) c.requires)
