use Rattle.std.proofs.Common.{◌≡◌, ◌<◌, ℕ, true, false, length}
use Rattle.ps_model.specs.declared.limits.TheConstants.{SIDE_LIMIT}
use Rattle.ps_board.specs.ColumnSets.{column_at, set_columns}
use Rattle.ps_screen.specs.PlainFrames.{IsBlankFrame, row_start}
use Rattle.ps_screen.specs.PlainRows.{IsPlainRow}
use Rattle.ps_screen.proofs.plain_frames.patch_frame.Given as goal

-- the rows of the set that aren't left are drawn, and all others are still those of the frame from before
abbrev pub invariant-loop-row : goal.invariant-loop-row
invariant-loop-row g l =
    record {
      ends : IsBlankFrame (g.B.Board.grid l.board).width (g.B.Board.grid l.board).height l.text;
      within : (row : ℕ) → row < SIDE_LIMIT → column_at l.left row ≡ true → row < (g.B.Board.grid l.board).height;
      wanted : (row : ℕ) → row < SIDE_LIMIT → column_at l.left row ≡ true → column_at l.fn.rows row ≡ true;
      drawn : (row : ℕ) → row < (g.B.Board.grid l.board).height → column_at l.left row ≡ false →
          column_at l.fn.rows row ≡ true →
          IsPlainRow l.look (g.B.Board.grid l.board) row (row_start (g.B.Board.grid l.board).width row) l.text;
      kept : (row : ℕ) → row < (g.B.Board.grid l.board).height → column_at l.fn.rows row ≡ false →
          IsPlainRow l.look (g.B.Board.grid l.shown) row (row_start (g.B.Board.grid l.board).width row) l.text;
      left : (row : ℕ) → row < (g.B.Board.grid l.board).height → column_at l.left row ≡ true →
          IsPlainRow l.look (g.B.Board.grid l.shown) row (row_start (g.B.Board.grid l.board).width row) l.text;
    }

abbrev pub decreases-loop-row : goal.decreases-loop-row
decreases-loop-row g l = length (set_columns l.left)
