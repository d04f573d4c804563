use Rattle.std.proofs.Common.{◌∙◌, List, ap}
use Rattle.std.specs.List.{list_any}
use Rattle.std.proofs.lemmas.List.{take_all}
use Rattle.ps_model.specs.declared.pieces.ObjectId.{ObjectId}
use Rattle.ps_model.specs.board.Grid.{Grid}
use Rattle.ps_board.specs.ColumnSets.{columns_below}
use Rattle.ps_turn.specs.RowsOfCells.{row_cells, has_each}
use Rattle.ps_turn.specs.Sweeps.{holds_any}
use Rattle.ps_turn.proofs.RowsOfCells.{within-all, rows_each_more}
use Rattle.ps_turn.proofs.rows.columns_with_each.Goals as goal

pub loop-index-init : goal.loop-index-init
loop-index-init g c = c.below-common.ensures ∙ ap columns_below c.size-width.ensures.width
    ∙ within-all (g.B.Board.grid c.args.board.now).width

pub loop-index-preserved : goal.loop-index-preserved
loop-index-preserved g c =
    let grid : Grid = g.B.Board.grid c.args.board.now in
    c.both-common.ensures
    ∙ rows_each_more grid c.args.row c.args.objects.now c.loop-index.index _ c.loop-index.common c.columns_with.result
    c.loop-index-test.true c.loop-index.invariant
    (c.columns_with.ensures ∙ ap (λ (objects : List ObjectId).
    row_cells (list_any (holds_any objects)) grid c.args.row) c.from_ref.ensures.value)

pub returns : goal.returns
returns g c =
    let grid : Grid = g.B.Board.grid c.args.board.now in
    c.loop-index.invariant ∙ ap (λ (objects : List ObjectId).
    row_cells (has_each objects) grid c.args.row)
    (take_all c.loop-index.index c.args.objects.now c.loop-index-test.false)
