use Rattle.ps_screen.proofs.PlainFrames.{RowsEnd}
use Rattle.ps_screen.proofs.plain_frames.make_blank.Given as goal

-- the rows passed by, each with its line feed
abbrev pub invariant-loop-row : goal.invariant-loop-row
invariant-loop-row l = RowsEnd l.width l._row l.text
