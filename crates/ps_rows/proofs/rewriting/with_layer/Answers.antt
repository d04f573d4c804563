use Rattle.std.proofs.Common.{◌∙◌, List, Bool, ap}
use Rattle.ps_board.specs.ColumnSets.{column_at}
use Rattle.ps_rows.proofs.LayersTouched.{layer_added}
use Rattle.ps_rows.proofs.rewriting.with_layer.Goals as goal

pub returns-then-layer-lt-WORD_BITS : goal.returns-then-layer-lt-WORD_BITS
returns-then-layer-lt-WORD_BITS c = λ x low.
    ap (λ (set : List Bool). column_at set x) c.with.ensures
    ∙ layer_added c.args.layers c.args.layer.0 c.args.count x low c.if-layer-count.true c.if-layer-lt-WORD_BITS.true
