use Rattle.std.proofs.Common.{◌∙◌, List, ap, sym}
use Rattle.std.specs.Prelude.{slice_get}
use Rattle.ps_model.specs.declared.compiled.LayeredObject.{LayeredObject}
use Rattle.ps_places.proofs.OnlyOn.{mask-first, mask-init}
use Rattle.ps_places.proofs.candidates.rows_of_first.Goals as goal

pub returns-in_default : goal.returns-in_default
returns-in_default g c =
    mask-init (g.B.Board.grid c.args.board.now) c.args.mask.now c.all.result c.recall_shape.ensures.shape
    c.recall_shape.ensures.low c.all.ensures

pub returns : goal.returns
returns g c =
    mask-first (g.B.Board.grid c.args.board.now) c.args.mask.now c.in-Some.object.now c.rows_with.result
    (ap (λ (objects : List LayeredObject). slice_get objects 0) (sym c.as_slice.ensures ∙ c.in-Some.ensures.cases.0))
    c.rows_with.ensures
