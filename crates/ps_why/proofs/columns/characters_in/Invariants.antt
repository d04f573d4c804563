use Rattle.std.proofs.Common.{◌≡◌, ◌≤◌, ◌+◌, drop}
use Rattle.ps_why.specs.Columns.{characters_in}
use Rattle.ps_why.proofs.columns.characters_in.Given as goal

-- the characters that began in what is passed by are counted, and the others lie ahead
abbrev pub invariant-loop-byte : goal.invariant-loop-byte
invariant-loop-byte l = record {
  counted : l.count + characters_in (drop l.byte-index l.bytes) ≡ characters_in l.bytes;
  few : l.count ≤ l.byte-index;
}
