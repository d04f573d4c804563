use Rattle.std.proofs.Common.{◌≡◌, drop}
use Rattle.ps_warnings.specs.Marks.{marked}
use Rattle.ps_warnings.proofs.marks.mark_all.Given as goal

-- what is left comes to the whole
abbrev pub invariant-loop-number : goal.invariant-loop-number
invariant-loop-number l =
    marked l.marks (drop l.number-index l.numbers) ≡ marked l.initial.marks l.numbers
