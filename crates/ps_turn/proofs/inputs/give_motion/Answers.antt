use Rattle.std.proofs.Common.{◌∙◌, List, [], ◌∷◌, sym, ap}
use Rattle.std.proofs.lemmas.List.{get_or_default, take_all}
use Rattle.ps_model.specs.declared.pieces.ObjectId.{ObjectId}
use Rattle.ps_model.specs.board.Grid.{Grid, at_rest}
use Rattle.ps_turn.specs.Sweeps.{grid_set_moving, grid_with_cells}
use Rattle.ps_turn.proofs.OneObject.{set_more, set_none}
use Rattle.ps_turn.proofs.Sweeps.{cells_from_rest}
use Rattle.ps_turn.proofs.inputs.give_motion.Goals as goal

pub loop-index-init : goal.loop-index-init
loop-index-init g c = record {
  moved = c.clear_moves.ensures.grid ∙ sym (set_none c.args.motion (at_rest (g.B.Board.grid c.args.board.now)));
  table = c.clear_moves.ensures.table;
  origin = c.clear_moves.ensures.origin;
}

pub loop-index-preserved : goal.loop-index-preserved
loop-index-preserved g c =
    let rested : Grid = at_rest (g.B.Board.grid c.args.board.now) in
    let inv = c.loop-index.invariant in
    record {
      moved =
          c.give_object.ensures.moved
          ∙ ap (grid_set_moving (_ ∷ []) c.args.motion) inv.moved
          ∙ set_more c.args.moved.now c.loop-index.index _ c.args.motion rested c.loop-index-test.true
          (get_or_default c.args.moved.now c.loop-index.index _ _ c.loop-index-test.true);
      table = c.give_object.ensures.table ∙ inv.table;
      origin = c.give_object.ensures.origin ∙ inv.origin;
    }

pub returns-clause-moved : goal.returns-clause-moved
returns-clause-moved g c =
    let start : Grid = g.B.Board.grid c.args.board.now in
    let rested : Grid = at_rest start in
    c.loop-index.invariant.moved
    ∙ ap (λ (objects : List ObjectId). grid_set_moving objects c.args.motion rested)
    (take_all c.loop-index.index c.args.moved.now c.loop-index-test.false)
    ∙ ap (grid_with_cells rested) (cells_from_rest c.args.moved.now c.args.motion start.cells)
