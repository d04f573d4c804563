use Rattle.ps_rows.proofs.UsedPlanes.{AreJoinedBelow}
use Rattle.ps_rows.proofs.used_planes.UsedPlanes.join.Given as goal

-- the sets passed by are joined, and the others as they were
abbrev pub invariant-loop-place : goal.invariant-loop-place
invariant-loop-place l = AreJoinedBelow l.place l.initial.self.words.items l.other.words.items l.self.words.items
