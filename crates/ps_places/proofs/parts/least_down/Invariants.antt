use Rattle.std.proofs.Common.{◌≡◌, length}
use Rattle.ps_program.specs.declared.rows.Axis.TheVariants.{Down}
use Rattle.ps_board.specs.ColumnSets.{set_columns}
use Rattle.ps_places.specs.Lines.{part_fits}
use Rattle.ps_places.specs.Ways.{from_first}
use Rattle.ps_places.proofs.Positions.{IsLeftOf}
use Rattle.ps_places.proofs.parts.least_down.Given as goal

-- the part doesn't fit at the positions taken out
abbrev pub invariant-loop-position : goal.invariant-loop-position
invariant-loop-position g l =
    let fits = part_fits (g.B.Board.grid l.board) (g.B.Board.table l.board) Down l.line l.part in
    record {
      first : from_first fits (set_columns l.fn.set) ≡ from_first fits (set_columns l.left);
      left : IsLeftOf l.fn.set l.left;
    }

abbrev pub decreases-loop-position : goal.decreases-loop-position
decreases-loop-position g l = length (set_columns l.left)
