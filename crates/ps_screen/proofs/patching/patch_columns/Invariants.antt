use Rattle.std.proofs.Common.{◌≡◌, ◌<◌, ℕ, true, length, get_or}
use Rattle.ps_model.specs.declared.limits.TheConstants.{SIDE_LIMIT}
use Rattle.ps_board.specs.ColumnSets.{column_at, set_columns}
use Rattle.ps_screen.specs.PlainRows.{AreDrawn, IsOutside}
use Rattle.ps_screen.proofs.patching.patch_columns.Given as goal

-- the columns that aren't left are drawn, and nothing has changed outside of the row
abbrev pub invariant-loop-column : goal.invariant-loop-column
invariant-loop-column g l =
    record {
      within : (x : ℕ) → x < SIDE_LIMIT → column_at l.left x ≡ true → x < (g.B.Board.grid l.board).width;
      long : length l.text ≡ length l.fn.text;
      drawn : AreDrawn l.look (g.B.Board.grid l.board) l.row l.left l.start l.text;
      elsewhere : (at : ℕ) → IsOutside l.start (g.B.Board.grid l.board).width at →
          get_or l.text at 0 ≡ get_or l.fn.text at 0;
    }

abbrev pub decreases-loop-column : goal.decreases-loop-column
decreases-loop-column g l = length (set_columns l.left)
