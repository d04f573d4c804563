use Rattle.std.proofs.Common.{◌≡◌, ◌+◌, drop}
use Rattle.ps_warnings.specs.NearWords.{common}
use Rattle.ps_warnings.proofs.near_words.common.Given as goal

-- what has been passed by is the same
abbrev pub invariant-loop-at : goal.invariant-loop-at
invariant-loop-at l = common (drop l.at l.word) (drop l.at l.other) + l.at ≡ common l.word l.other
