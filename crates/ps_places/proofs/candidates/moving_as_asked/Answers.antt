use Rattle.std.proofs.Common.{◌∙◌, List, ap, sym}
use Rattle.std.specs.Prelude.{slice_get}
use Rattle.std.proofs.lemmas.Option.{slice_get-get_or}
use Rattle.ps_model.specs.declared.compiled.MotionTest.{MotionTest}
use Rattle.ps_places.proofs.OnlyOn.{motion-more}
use Rattle.ps_places.proofs.candidates.moving_as_asked.Goals as goal

pub loop-number-preserved : goal.loop-number-preserved
loop-number-preserved g c =
    motion-more (g.B.Board.grid c.args.board.now) c.args.mask.now _ c.loop-number.number c.loop-number.rows
    c.rows_moving-moving.result c.both-rows.result c.recall_shape.ensures.shape
    (ap (λ (tests : List MotionTest). slice_get tests c.loop-number.number) (sym c.as_slice-tests.ensures)
    ∙ slice_get-get_or c.as_slice-tests.result.now c.loop-number.number _ c.loop-number-test.true)
    c.rows_moving-moving.ensures c.both-rows.ensures c.loop-number.invariant
