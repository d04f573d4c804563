use Rattle.std.proofs.Common.{◌≡◌, drop, map, replicate, None}
use Rattle.ps_model.specs.names.LayerLines.{objects_of_layer}
use Rattle.ps_names.specs.LayersShown.{placed_each, layers_shown}
use Rattle.ps_names.proofs.layers.layers_found.Given as goal

abbrev pub invariant-loop-number : goal.invariant-loop-number
invariant-loop-number l =
    placed_each l.number l.places.items (map objects_of_layer (layers_shown (drop l.number l.layers))) ≡ placed_each 0
    (replicate l.count None) (map objects_of_layer (layers_shown l.layers))
