use Rattle.std.proofs.Common.{◌≡◌, drop}
use Rattle.ps_model.specs.board.Attempts.{same_cell}
use Rattle.ps_board.proofs.slots.same_slots.Given as goal

-- the slots passed by are the same
abbrev pub invariant-loop-place : goal.invariant-loop-place
invariant-loop-place l = same_cell l.first l.second ≡ same_cell (drop l.place l.first) (drop l.place l.second)
