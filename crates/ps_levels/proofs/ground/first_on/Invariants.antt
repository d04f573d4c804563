use Rattle.std.proofs.Common.{◌≡◌, drop}
use Rattle.std.specs.Prelude.{find, nat_eq, unwrap_or}
use Rattle.std.specs.List.{flat_map}
use Rattle.ps_model.specs.names.Names.{layer_of}
use Rattle.ps_levels.specs.Cells.{cells_shown}
use Rattle.ps_levels.proofs.ground.first_on.Given as goal

abbrev pub invariant-loop-objects : goal.invariant-loop-objects
invariant-loop-objects l =
    unwrap_or (find (λ object. nat_eq (layer_of l.names object) l.layer)
    (flat_map (λ objects. objects) (cells_shown (drop l.objects-index l.cells)))) l.other
    ≡ unwrap_or (find (λ object. nat_eq (layer_of l.names object) l.layer)
    (flat_map (λ objects. objects) (cells_shown l.cells))) l.other
