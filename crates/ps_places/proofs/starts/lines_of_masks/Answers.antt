use Rattle.std.proofs.Common.{◌∙◌, [], refl}
use Rattle.std.proofs.lemmas.List.{get_or_default}
use Rattle.ps_places.proofs.FoundOnLines.{lines-ruled}
use Rattle.ps_places.proofs.PartsRead.{read_whole}
use Rattle.ps_places.proofs.starts.lines_of_masks.Goals as goal

pub loop-number-preserved : goal.loop-number-preserved
loop-number-preserved g c = λ starts.
    lines-ruled (g.B.Board.grid c.args.board.now) (g.B.Board.table c.args.board.now) c.args.parts.now
    c.loop-number.number c.as_slice-part.result.now starts c.loop-number.left c.rows_of_part.result c.both-left.result
    c.recall_shape.ensures.shape c.loop-number-test.true
    (c.as_slice-part.ensures ∙ c.index-parts-number.is
    ∙ get_or_default c.args.parts.now c.loop-number.number c.index-parts-number.result [] c.loop-number-test.true)
    c.both-left.ensures c.rows_of_part.ensures (c.loop-number.invariant starts)

pub rows_of_part-requires : goal.rows_of_part-requires
rows_of_part-requires g c =
    read_whole c.args.parts.now c.args.parts.now c.index-parts-number.result c.as_slice-part.result.now
    c.loop-number.number refl c.index-parts-number.is c.as_slice-part.ensures c.loop-number-test.true c.requires.whole
