use Rattle.ps_keys.proofs.KeyBytes.{HaveRead}
use Rattle.ps_keys.proofs.key_bytes.keys_of_bytes.Given as goal

-- the bytes passed by are read
abbrev pub invariant-loop-byte : goal.invariant-loop-byte
invariant-loop-byte l = HaveRead l.bytes l.byte-index l.reader l.keys.items
