use Rattle.std.proofs.Common.{◌≡◌, ◌+◌, ◌≤◌, drop}
use Rattle.ps_causes.specs.Clues.{never_closes}
use Rattle.ps_causes.proofs.comments.never_closes.Given as goal

-- the bytes passed by close none, and the others lie ahead
abbrev pub invariant-loop-byte : goal.invariant-loop-byte
invariant-loop-byte l =
    record {
      told : never_closes l.depth (drop l.byte-index l.bytes) ≡ never_closes 1 l.bytes;
      few : l.depth ≤ l.byte-index + 1;
    }
