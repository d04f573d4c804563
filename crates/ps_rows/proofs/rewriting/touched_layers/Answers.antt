use Rattle.std.proofs.Common.{◌≡◌, ◌∙◌, ◌&&◌, ◌||◌, List, Bool, false, ap}
use Rattle.ps_model.specs.declared.compiled.LayeredObject.{LayeredObject}
use Rattle.ps_model.specs.declared.compiled.LayerWrite.{LayerWrite}
use Rattle.ps_board.specs.ColumnSets.{column_at}
use Rattle.ps_rows.specs.LayersTouched.{is_reached, is_written, loses_one}
use Rattle.ps_rows.proofs.LayersTouched.{touched_by}
use Rattle.ps_rows.proofs.Sets.{none_at}
use Rattle.ps_rows.proofs.rewriting.touched_layers.Goals as goal

pub returns : goal.returns
returns c = λ x low.
    let reached : Bool = is_reached c.args.count x in
    let left : List Bool = c.with_layers_left-left.result in
    let gone : column_at left x ≡ (false || (reached && loses_one c.args.write.now.gone x)) =
    c.with_layers_left-left.ensures x low
    ∙ ap (λ (b : Bool). b || (reached && loses_one c.as_slice.result.now x))
    (ap (λ (set : List Bool). column_at set x) c.none.ensures ∙ none_at x)
    ∙ ap (λ (xs : List LayeredObject). false || (reached && loses_one xs x)) c.as_slice.ensures in
    let both : column_at c.with_layers_written.result x
    ≡ (column_at left x || (reached && is_written c.args.write.now.layers x)) =
    c.with_layers_written.ensures x low
    ∙ ap (λ (xs : List LayerWrite). column_at left x || (reached && is_written xs x)) c.as_slice-2.ensures in
    touched_by reached (loses_one c.args.write.now.gone x) (is_written c.args.write.now.layers x) (column_at left x)
    (column_at c.with_layers_written.result x) gone both
