use Rattle.std.proofs.Common.{◌≡◌, ◌<◌, ℕ, true, false, [], length, get_or}
use Rattle.ps_model.specs.session.Frames.{frame_row}
use Rattle.ps_model.specs.declared.limits.TheConstants.{SIDE_LIMIT}
use Rattle.ps_board.specs.ColumnSets.{column_at, set_columns}
use Rattle.ps_screen.proofs.rows.patch_rows.Given as goal

-- the rows of the set that aren't left are drawn, and all others are still those of the frame from before
abbrev pub invariant-loop-row : goal.invariant-loop-row
invariant-loop-row g l =
    record {
      long : length l.texts ≡ (g.B.Board.grid l.board).height;
      within : (row : ℕ) → row < SIDE_LIMIT → column_at l.left row ≡ true → row < (g.B.Board.grid l.board).height;
      wanted : (row : ℕ) → row < SIDE_LIMIT → column_at l.left row ≡ true → column_at l.fn.rows row ≡ true;
      kept : (row : ℕ) → row < (g.B.Board.grid l.board).height → column_at l.fn.rows row ≡ false →
          get_or l.texts row [] ≡ frame_row l.look (g.B.Board.grid l.shown) row;
      drawn : (row : ℕ) → row < (g.B.Board.grid l.board).height → column_at l.left row ≡ false →
          column_at l.fn.rows row ≡ true → get_or l.texts row [] ≡ frame_row l.look (g.B.Board.grid l.board) row;
      left : (row : ℕ) → row < (g.B.Board.grid l.shown).height → column_at l.left row ≡ true →
          get_or l.texts row [] ≡ frame_row l.look (g.B.Board.grid l.shown) row;
    }

abbrev pub decreases-loop-row : goal.decreases-loop-row
decreases-loop-row g l = length (set_columns l.left)
