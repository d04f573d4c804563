use Rattle.ps_places.specs.Candidates.{FitsOnlyOn}
use Rattle.ps_places.proofs.candidates.moving_as_asked.Given as goal

-- no cell of another row of the board fits
abbrev pub invariant-loop-number : goal.invariant-loop-number
invariant-loop-number g l = FitsOnlyOn (g.B.Board.grid l.board) l.mask l.rows
