use Rattle.std.proofs.Common.{◌≡◌, drop}
use Rattle.std.specs.List.{list_any}
use Rattle.ps_warnings.specs.Sounds.{is_same}
use Rattle.ps_warnings.proofs.sounds.is_one_of.Given as goal

-- the words passed by are others
abbrev pub invariant-loop-other : goal.invariant-loop-other
invariant-loop-other l = list_any (λ other. is_same l.word other.now) (drop l.other-index l.others) ≡ list_any
    (λ other. is_same l.word other.now) l.others
