use Rattle.std.proofs.Common.{◌≡◌, drop}
use Rattle.ps_warnings.specs.Marks.{marked}
use Rattle.ps_warnings.specs.NameWarnings.{others_than}
use Rattle.ps_warnings.proofs.used_names.mark_others.Given as goal

-- what is left comes to the whole
abbrev pub invariant-loop-line : goal.invariant-loop-line
invariant-loop-line l =
    marked l.used (others_than l.own (drop l.line-index l.named)) ≡ marked l.initial.used (others_than l.own l.named)
