use Rattle.std.proofs.Common.{◌≡◌, take}
use Rattle.ps_model.specs.board.Grid.{Grid, at_rest}
use Rattle.ps_turn.specs.Sweeps.{grid_set_moving}
use Rattle.ps_turn.proofs.inputs.give_motion.Given as goal

-- the objects passed by have the motion, all others are at rest, and there is room as before
abbrev pub invariant-loop-index : goal.invariant-loop-index
invariant-loop-index g l =
    let rested : Grid = at_rest (g.B.Board.grid l.fn.board) in
    record {
      moved : g.B.Board.grid l.board ≡ grid_set_moving (take l.index l.moved) l.motion rested;
      table : g.B.Board.table l.board ≡ g.B.Board.table l.fn.board;
      origin : g.B.Board.origin l.board ≡ g.B.Board.origin l.fn.board;
    }
