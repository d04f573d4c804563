use Rattle.std.proofs.Common.{◌≡◌, drop}
use Rattle.std.specs.Prelude.{find}
use Rattle.std.specs.List.{list_all}
use Rattle.ps_compile.specs.LayerValues.{lies_on}
use Rattle.ps_compile.proofs.values.some_of_list.Given as goal

abbrev pub invariant-loop-objects : goal.invariant-loop-objects
invariant-loop-objects l =
    find (list_all (lies_on l.layer.0)) (drop l.objects-index l.lists)
    ≡ find (list_all (lies_on l.layer.0)) l.lists
