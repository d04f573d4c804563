use Rattle.std.proofs.Common.{take}
use Rattle.ps_keys.proofs.FedPieces.{ReadSilently}
use Rattle.ps_keys.proofs.keys.Keys.feed.Given as goal

-- the bytes passed by have brought no key
abbrev pub invariant-loop-place : goal.invariant-loop-place
invariant-loop-place l = ReadSilently l.fn.self l.self (take l.place l.piece)
