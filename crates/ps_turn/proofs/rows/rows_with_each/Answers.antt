use Rattle.std.proofs.Common.{◌∙◌, List, ap, subst}
use Rattle.std.proofs.lemmas.List.{get_or_default, take_all}
use Rattle.ps_model.specs.declared.pieces.ObjectId.{ObjectId}
use Rattle.ps_board.specs.ColumnSets.{columns_below}
use Rattle.ps_turn.specs.RowsOfCells.{NonePassOutside, has_each}
use Rattle.ps_turn.proofs.RowsHeld.{each-more, each-none}
use Rattle.ps_turn.proofs.rows.rows_with_each.Goals as goal

pub loop-index-init : goal.loop-index-init
loop-index-init g c = each-none (g.B.Board.grid c.args.board.now) c.below-common.result c.size-width.ensures.shape
    (c.below-common.ensures ∙ ap columns_below c.size-width.ensures.height)

pub loop-index-preserved : goal.loop-index-preserved
loop-index-preserved g c =
    each-more (g.B.Board.grid c.args.board.now) c.args.objects.now c.loop-index.index _ c.loop-index.common
    c.rows_holding.result c.both-common.result c.size-width.ensures.shape c.loop-index-test.true
    (get_or_default c.args.objects.now c.loop-index.index _ _ c.loop-index-test.true) c.both-common.ensures
    c.loop-index.invariant c.rows_holding.ensures

pub returns : goal.returns
returns g c =
    subst (λ (objects : List ObjectId). NonePassOutside (has_each objects) (g.B.Board.grid c.args.board.now)
    c.loop-index.common)
    (take_all c.loop-index.index c.args.objects.now c.loop-index-test.false) c.loop-index.invariant
