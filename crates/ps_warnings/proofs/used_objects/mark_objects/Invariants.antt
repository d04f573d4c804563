use Rattle.std.proofs.Common.{◌≡◌, drop}
use Rattle.ps_warnings.specs.Marks.{marked}
use Rattle.ps_warnings.specs.ObjectWarnings.{numbers}
use Rattle.ps_warnings.proofs.used_objects.mark_objects.Given as goal

-- what is left comes to the whole
abbrev pub invariant-loop-object : goal.invariant-loop-object
invariant-loop-object l =
    marked l.marks (numbers (drop l.object-index l.objects)) ≡ marked l.initial.marks (numbers l.objects)
