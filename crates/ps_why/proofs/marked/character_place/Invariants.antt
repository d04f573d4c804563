use Rattle.std.proofs.Common.{◌≡◌, drop}
use Rattle.ps_why.specs.Marked.{character_place}
use Rattle.ps_why.proofs.marked.character_place.Given as goal

-- as many characters as are left lie ahead
abbrev pub invariant-loop-at : goal.invariant-loop-at
invariant-loop-at l = character_place l.at l.left (drop l.at l.bytes) ≡ character_place 0 l.column l.bytes
