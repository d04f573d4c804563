use Rattle.std.proofs.Common.{◌∙◌, List, ap}
use Rattle.std.specs.List.{list_any}
use Rattle.std.proofs.lemmas.List.{get_or_default, take_all}
use Rattle.ps_model.specs.declared.pieces.ObjectId.{ObjectId}
use Rattle.ps_model.specs.board.Grid.{Grid}
use Rattle.ps_turn.specs.RowsOfCells.{row_cells}
use Rattle.ps_turn.specs.Sweeps.{holds_any}
use Rattle.ps_turn.proofs.RowsHeld.{standing-more, standing-none}
use Rattle.ps_turn.proofs.standing.columns_with.Goals as goal

pub loop-index-init : goal.loop-index-init
loop-index-init g c = c.none-holding.ensures ∙ standing-none (g.B.Board.grid c.args.board.now) c.args.row

pub loop-index-preserved : goal.loop-index-preserved
loop-index-preserved g c =
    c.either-holding.ensures
    ∙ standing-more (g.B.Board.grid c.args.board.now) c.args.objects.now c.loop-index.index _ c.args.row
    c.loop-index.holding c.object_columns.result c.loop-index-test.true
    (get_or_default c.args.objects.now c.loop-index.index _ _ c.loop-index-test.true)
    c.loop-index.invariant c.object_columns.ensures

pub returns : goal.returns
returns g c =
    let grid : Grid = g.B.Board.grid c.args.board.now in
    c.loop-index.invariant
    ∙ ap (λ (objects : List ObjectId). row_cells (list_any (holds_any objects)) grid c.args.row)
    (take_all c.loop-index.index c.args.objects.now c.loop-index-test.false)
