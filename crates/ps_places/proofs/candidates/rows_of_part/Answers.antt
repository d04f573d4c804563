use Rattle.std.proofs.Common.{length, refl, subst, sym}
use Rattle.std.proofs.lemmas.Option.{slice_get_read}
use Rattle.ps_program.specs.declared.cells.CompiledCell.{CompiledCell}
use Rattle.ps_program.specs.declared.rows.Axis.TheVariants.{Down, Right}
use Rattle.ps_places.specs.Candidates.{FitsOnlyOn}
use Rattle.ps_places.proofs.OnlyOn.{begin-first}
use Rattle.ps_places.proofs.candidates.rows_of_part.Goals as goal

pub rows_down-requires : goal.rows_down-requires
rows_down-requires g c =
    let grid = g.B.Board.grid c.args.board.now in
    begin-first grid (g.B.Board.table c.args.board.now) Down c.args.part.now c.index-part-0.result
    c.rows_of_mask-rows.result
    (slice_get_read c.args.part.now (length c.args.part.now) 0 c.index-part-0.result refl c.requires c.index-part-0.is)
    c.requires
    (subst (λ (cell : CompiledCell). FitsOnlyOn grid cell.mask c.rows_of_mask-rows.result) (sym c.index-part-0.is)
    c.rows_of_mask-rows.ensures)

pub rows_across-requires : goal.rows_across-requires
rows_across-requires g c =
    let grid = g.B.Board.grid c.args.board.now in
    begin-first grid (g.B.Board.table c.args.board.now) Right c.args.part.now c.index-part-0.result
    c.rows_of_mask-rows.result
    (slice_get_read c.args.part.now (length c.args.part.now) 0 c.index-part-0.result refl c.requires c.index-part-0.is)
    c.requires
    (subst (λ (cell : CompiledCell). FitsOnlyOn grid cell.mask c.rows_of_mask-rows.result) (sym c.index-part-0.is)
    c.rows_of_mask-rows.ensures)
