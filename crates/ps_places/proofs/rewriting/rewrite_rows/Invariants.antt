use Rattle.std.proofs.Common.{◌≡◌, ◌<◌, length, true, ℕ}
use Rattle.ps_model.specs.declared.limits.TheConstants.{SIDE_LIMIT}
use Rattle.ps_model.specs.board.Grid.{IsGrid}
use Rattle.ps_board.specs.ColumnSets.{column_at, set_columns}
use Rattle.ps_match.proofs.RowWritten.{told}
use Rattle.ps_laws.specs.WholeRows.{HasCells}
use Rattle.ps_places.specs.LeavingAlone.{PlacesLieAlone}
use Rattle.ps_places.specs.PartStarts.{AreStarts}
use Rattle.ps_places.proofs.RowsTogether.{rows_done}
use Rattle.ps_match.specs.FixedParts.{fixed_part}
use Rattle.ps_places.proofs.rewriting.rewrite_rows.Given as goal

-- the places on the rows that aren't left are done, and all others are as they were
abbrev pub invariant-loop-row : goal.invariant-loop-row
invariant-loop-row g l =
    let start = g.B.Board.grid l.fn.board in
    let table = g.B.Board.table l.fn.board in
    record {
      among : (row : ℕ) → row < SIDE_LIMIT → column_at l.left row ≡ true → column_at l.fn.rows row ≡ true;
      rewritten : (grid : IsGrid start) (some : HasCells l.part)
          (found : AreStarts start table l.fn.axis l.part l.fn.rows l.starts)
          (alone : PlacesLieAlone l.fn.axis l.part l.fn.rows l.starts) →
          told (g.B.Board.grid l.board) l.changed
          ≡ rows_done start table l.fn.axis l.part l.fn.rows l.starts grid some found alone l.left;
      fixed : fixed_part g.B.Board l.board ≡ fixed_part g.B.Board l.fn.board;
    }

abbrev pub decreases-loop-row : goal.decreases-loop-row
decreases-loop-row g l = length (set_columns l.left)
