use Rattle.std.proofs.Common.{◌≢◌, ◌<◌, ℕ, get_or}
use Rattle.lizhakoven.proofs.played_keys.takes_back.Given as goal

-- none of the bytes passed by takes back
abbrev pub invariant-loop-byte : goal.invariant-loop-byte
invariant-loop-byte l = (i : ℕ) → i < l.byte-index → get_or l.bytes i 0 ≢ 122
