use Rattle.std.proofs.Common.{◌∙◌, List, ap, sym}
use Rattle.std.specs.Prelude.{slice_get}
use Rattle.ps_model.specs.declared.compiled.MotionTest.{MotionTest}
use Rattle.ps_places.proofs.OnlyOn.{motion-more}
use Rattle.ps_places.proofs.candidates.moving_as_first.Goals as goal

pub returns : goal.returns
returns g c =
    motion-more (g.B.Board.grid c.args.board.now) c.args.mask.now c.in-Some.test.now 0 c.args.rows
    c.rows_moving-moving.result c.both.result c.recall_shape.ensures.shape
    (ap (λ (tests : List MotionTest). slice_get tests 0) (sym c.as_slice.ensures ∙ c.in-Some.ensures.cases.0))
    c.rows_moving-moving.ensures c.both.ensures c.requires
