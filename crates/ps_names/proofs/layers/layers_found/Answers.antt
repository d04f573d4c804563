use Rattle.std.proofs.Common.{◌≡◌, ◌∙◌, sym, ap, List, [], drop, map, arith}
use Rattle.std.proofs.lemmas.List.{drop_all}
use Rattle.ps_model.specs.names.LayerLines.{objects_of_layer}
use Rattle.ps_names.specs.declared.layers.Layer.{Layer}
use Rattle.ps_names.specs.LayersShown.{placed_each, layers_shown}
use Rattle.ps_names.proofs.wholes.LayerLaw.{layers-placed}
use Rattle.ps_names.proofs.layers.layers_found.Goals as goal

pub returns : goal.returns
returns c =
    let end : drop c.loop-number.number c.args.layers.now ≡ [] =
    drop_all c.loop-number.number c.args.layers.now (omega arith) in
    ap (λ (rest : List Layer). placed_each c.loop-number.number c.loop-number.places.items
    (map objects_of_layer (layers_shown rest))) (sym end)
    ∙ c.loop-number.invariant ∙ layers-placed c.args.count (layers_shown c.args.layers.now)
