use Rattle.std.proofs.Common.{◌≡◌, ◌++◌, drop}
use Rattle.std.specs.Prelude.{string_bytes}
use Rattle.ps_causes.specs.LikeHeaders.{letters}
use Rattle.ps_causes.proofs.headers.push_letters.Given as goal

-- the letters passed by are there, and the others lie ahead
abbrev pub invariant-loop-at : goal.invariant-loop-at
invariant-loop-at l =
    string_bytes l.made ++ letters (drop l.at l.word) ≡ string_bytes l.initial.made ++ letters l.word
