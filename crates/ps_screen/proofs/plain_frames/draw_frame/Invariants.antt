use Rattle.std.proofs.Common.{◌<◌, ℕ}
use Rattle.ps_screen.specs.PlainFrames.{IsBlankFrame, row_start}
use Rattle.ps_screen.specs.PlainRows.{IsPlainRow}
use Rattle.ps_screen.proofs.plain_frames.draw_frame.Given as goal

-- the rows passed by are drawn, and the line feeds are there
abbrev pub invariant-loop-row : goal.invariant-loop-row
invariant-loop-row g l =
    record {
      ends : IsBlankFrame (g.B.Board.grid l.board).width (g.B.Board.grid l.board).height l.text;
      drawn : (row : ℕ) → row < l.row → IsPlainRow l.look (g.B.Board.grid l.board) row
          (row_start (g.B.Board.grid l.board).width row) l.text;
    }
