use Rattle.std.proofs.Common.{length, refl, subst, sym}
use Rattle.std.proofs.lemmas.Option.{slice_get_read}
use Rattle.ps_program.specs.declared.cells.CompiledCell.{CompiledCell}
use Rattle.ps_program.specs.declared.rows.Axis.TheVariants.{Right}
use Rattle.ps_places.specs.Candidates.{FitsOnlyOn}
use Rattle.ps_places.proofs.OnlyOn.{begin-more, cell-right}
use Rattle.ps_places.proofs.candidates.rows_across.Goals as goal

pub loop-number-preserved : goal.loop-number-preserved
loop-number-preserved g c =
    let grid = g.B.Board.grid c.args.board.now in
    begin-more grid (g.B.Board.table c.args.board.now) Right c.args.part.now c.loop-number.number
    c.index-part-number.result c.loop-number.rows c.rows_of_mask.result c.both-rows.result c.recall_shape.ensures.shape
    (slice_get_read c.args.part.now (length c.args.part.now) c.loop-number.number c.index-part-number.result refl
    c.loop-number-test.true c.index-part-number.is) c.loop-number-test.true
    (cell-right grid (c.index-part-number.result).mask c.loop-number.number c.rows_of_mask.result
    (subst (λ (cell : CompiledCell). FitsOnlyOn grid cell.mask c.rows_of_mask.result) (sym c.index-part-number.is)
    c.rows_of_mask.ensures))
    c.both-rows.ensures c.loop-number.invariant
