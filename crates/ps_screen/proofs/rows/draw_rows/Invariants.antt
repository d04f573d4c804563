use Rattle.std.proofs.Common.{◌≡◌, map}
use Rattle.std.specs.List.{range_with_len}
use Rattle.ps_model.specs.session.Frames.{frame_row}
use Rattle.ps_screen.proofs.rows.draw_rows.Given as goal

-- the rows passed by are made
abbrev pub invariant-loop-row : goal.invariant-loop-row
invariant-loop-row g l = l.texts.items ≡ map (frame_row l.look (g.B.Board.grid l.board)) (range_with_len 0 l.row)
