use Rattle.std.proofs.Common.{◌≡◌, drop}
use Rattle.std.specs.List.{flat_map}
use Rattle.ps_warnings.specs.Marks.{marked}
use Rattle.ps_warnings.specs.ObjectWarnings.{numbers}
use Rattle.ps_warnings.proofs.used_objects.mark_cells.Given as goal

-- what is left comes to the whole
abbrev pub invariant-loop-number : goal.invariant-loop-number
invariant-loop-number l =
    marked l.marks (flat_map numbers (drop l.number l.cells)) ≡ marked l.initial.marks (flat_map numbers l.cells)
