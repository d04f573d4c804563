use Rattle.std.proofs.Common.{◌≡◌, ◌<◌, ◌≤◌, ◌&&◌, ◌||◌, List, length, arith, subst}
use Rattle.std.proofs.lemmas.List.{take_all}
use Rattle.ps_model.specs.declared.compiled.LayeredObject.{LayeredObject}
use Rattle.ps_board.specs.ColumnSets.{column_at}
use Rattle.ps_rows.specs.LayersTouched.{is_reached, loses_one}
use Rattle.ps_rows.proofs.LayersTouched.{listed_more, listed_none}
use Rattle.ps_rows.proofs.rewriting.with_layers_left.Goals as goal

pub loop-each-init : goal.loop-each-init
loop-each-init c = λ x low.
    listed_none (λ (each : LayeredObject). (each.layer).0) c.args.count x (column_at c.args.layers x)

pub loop-each-preserved : goal.loop-each-preserved
loop-each-preserved c = λ x low.
    let below : c.loop-each.each-index < length c.args.gone.now = omega arith in
    listed_more (λ (each : LayeredObject). (each.layer).0) c.args.count x (column_at c.args.layers x) c.args.gone.now
    c.loop-each.each-index _ (column_at c.loop-each.all x) (column_at c.with_layer-all.result x) below
    (c.with_layer-all.ensures x low) (c.loop-each.invariant x low)

pub returns : goal.returns
returns c = λ x low.
    let end : length c.args.gone.now ≤ c.loop-each.each-index = omega arith in
    let P : List LayeredObject → Type 0 = λ xs.
    column_at c.loop-each.all x ≡ (column_at c.args.layers x || (is_reached c.args.count x && loses_one xs x)) in
    subst P (take_all c.loop-each.each-index c.args.gone.now end) (c.loop-each.invariant x low)
