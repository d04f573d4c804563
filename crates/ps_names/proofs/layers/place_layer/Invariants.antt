use Rattle.std.proofs.Common.{◌≡◌, drop, map, option_map}
use Rattle.std.specs.List.{flat_map}
use Rattle.ps_model.specs.names.Names.{members_if}
use Rattle.ps_model.specs.names.LayerLines.{objects_of_layer}
use Rattle.ps_names.specs.LayersShown.{placed, layer_shown}
use Rattle.ps_names.specs.Shown.{meaning_shown}
use Rattle.ps_names.proofs.layers.place_layer.Given as goal

abbrev pub invariant-loop-meaning : goal.invariant-loop-meaning
invariant-loop-meaning l =
    placed l.number l.places (flat_map members_if
    (map (λ m. option_map (λ m. meaning_shown m.now) m) (drop l.meaning-index l.layer.named.items)))
    ≡ placed l.number l.initial.places (objects_of_layer (layer_shown l.layer))
