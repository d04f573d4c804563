use Rattle.std.proofs.Common.{◌∙◌, List, ap, sym}
use Rattle.std.specs.Prelude.{slice_get}
use Rattle.std.proofs.lemmas.Option.{slice_get-get_or}
use Rattle.ps_model.specs.declared.compiled.LayeredObject.{LayeredObject}
use Rattle.ps_places.proofs.OnlyOn.{mask-more}
use Rattle.ps_places.proofs.candidates.rows_of_mask.Goals as goal

pub loop-number-preserved : goal.loop-number-preserved
loop-number-preserved g c =
    mask-more (g.B.Board.grid c.args.board.now) c.args.mask.now _ c.loop-number.number c.loop-number.rows
    c.rows_with-having.result c.both-rows.result c.recall_shape.ensures.shape
    (ap (λ (objects : List LayeredObject). slice_get objects c.loop-number.number) (sym c.as_slice-objects.ensures)
    ∙ slice_get-get_or c.as_slice-objects.result.now c.loop-number.number _ c.loop-number-test.true)
    c.rows_with-having.ensures c.both-rows.ensures c.loop-number.invariant
