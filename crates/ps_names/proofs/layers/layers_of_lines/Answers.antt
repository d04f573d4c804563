use Rattle.std.proofs.Common.{◌∙◌, ◌∷◌, [], ◌+◌, List, map, drop, sym, ap}
use Rattle.std.proofs.lemmas.List.{map-append}
use Rattle.ps_model.specs.names.LayerLines.{Layer as Meant}
use Rattle.ps_names.specs.declared.lines.WrittenLine.{WrittenLine}
use Rattle.ps_names.specs.LayersShown.{layer_shown, layers_shown, layer_over}
use Rattle.ps_names.specs.LinesShown.{lines_shown}
use Rattle.ps_names.proofs.common.Loops.{made-more}
use Rattle.ps_names.proofs.layers.layers_of_lines.Goals as goal

pub loop-line-preserved : goal.loop-line-preserved
loop-line-preserved c =
    let f : List WrittenLine → List Meant = λ lines. map (layer_over c.args.table.now) (lines_shown lines) in
    made-more f (layers_shown c.loop-line.layers.items) (layers_shown c.push.new.self.items)
    (layer_shown c.in_ok-layer.layer ∷ []) (f c.args.lines.now) c.args.lines.now c.loop-line.line-index
    c.line-item.result _
    (ap layers_shown c.in_ok-push.ensures.items
    ∙ map-append layer_shown c.loop-line.layers.items (c.in_ok-layer.layer ∷ [])) c.loop-line-test.true c.line-item.is
    (ap (λ (layer : Meant). layer ∷ f (drop (c.loop-line.line-index + 1) c.args.lines.now))
    (sym c.in_ok-layer.ensures)) c.loop-line.invariant
