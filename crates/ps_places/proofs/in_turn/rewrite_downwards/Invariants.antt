use Rattle.std.proofs.Common.{◌≡◌, ◌<◌, false, length, true, ℕ}
use Rattle.ps_model.specs.declared.limits.TheConstants.{SIDE_LIMIT}
use Rattle.ps_board.specs.ColumnSets.{column_at, set_columns}
use Rattle.ps_match.proofs.RowWritten.{told}
use Rattle.ps_places.specs.Lines.{part_meaning}
use Rattle.ps_places.proofs.DownTurns.{rows_in_turn}
use Rattle.ps_match.specs.FixedParts.{fixed_part}
use Rattle.ps_places.proofs.in_turn.rewrite_downwards.Given as goal

-- with the rows that are left the board comes to what it comes to with all from the start
abbrev pub invariant-loop-row : goal.invariant-loop-row
invariant-loop-row g l =
    let start = g.B.Board.grid l.fn.board in
    let table = g.B.Board.table l.fn.board in
    let all = part_meaning table l.part in
    record {
      among : (row : ℕ) → row < SIDE_LIMIT → column_at l.left row ≡ true → column_at l.fn.rows row ≡ true;
      rewritten : rows_in_turn start.width start.height all l.starts (told (g.B.Board.grid l.board) l.changed)
          (set_columns l.left)
          ≡ rows_in_turn start.width start.height all l.starts (told start false) (set_columns l.fn.rows);
      fixed : fixed_part g.B.Board l.board ≡ fixed_part g.B.Board l.fn.board;
    }

abbrev pub decreases-loop-row : goal.decreases-loop-row
decreases-loop-row g l = length (set_columns l.left)
