use Rattle.std.proofs.Common.{◌≡◌, drop}
use Rattle.std.specs.List.{list_all}
use Rattle.ps_compile.specs.LayerValues.{has_one_of}
use Rattle.ps_compile.proofs.values.has_one_of_each.Given as goal

abbrev pub invariant-loop-objects : goal.invariant-loop-objects
invariant-loop-objects l =
    list_all (has_one_of l.layer.0 l.slot) (drop l.objects-index l.lists)
    ≡ list_all (has_one_of l.layer.0 l.slot) l.lists
