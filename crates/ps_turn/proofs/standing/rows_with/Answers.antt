use Rattle.std.proofs.Common.{List, subst}
use Rattle.std.specs.List.{list_any}
use Rattle.std.proofs.lemmas.List.{get_or_default, take_all}
use Rattle.ps_model.specs.declared.pieces.ObjectId.{ObjectId}
use Rattle.ps_turn.specs.RowsOfCells.{NonePassOutside}
use Rattle.ps_turn.specs.Sweeps.{holds_any}
use Rattle.ps_turn.proofs.RowsHeld.{held-more, held-none}
use Rattle.ps_turn.proofs.standing.rows_with.Goals as goal

pub loop-index-init : goal.loop-index-init
loop-index-init g c = held-none (g.B.Board.grid c.args.board.now) c.none-rows.result

pub loop-index-preserved : goal.loop-index-preserved
loop-index-preserved g c =
    held-more (g.B.Board.grid c.args.board.now) c.args.objects.now c.loop-index.index _ c.loop-index.rows
    c.rows_holding.result c.either-rows.result c.size.ensures.shape c.loop-index-test.true
    (get_or_default c.args.objects.now c.loop-index.index _ _ c.loop-index-test.true) c.either-rows.ensures
    c.loop-index.invariant c.rows_holding.ensures

pub returns : goal.returns
returns g c =
    subst (λ (objects : List ObjectId). NonePassOutside (list_any (holds_any objects))
    (g.B.Board.grid c.args.board.now) c.loop-index.rows)
    (take_all c.loop-index.index c.args.objects.now c.loop-index-test.false) c.loop-index.invariant
