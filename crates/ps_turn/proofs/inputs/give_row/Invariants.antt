use Rattle.std.proofs.Common.{◌≡◌, ◌-◌, ◌<◌, ◌≤◌, ℕ, [], ◌∷◌, map}
use Rattle.ps_model.specs.board.Grid.{Grid}
use Rattle.ps_turn.specs.Sweeps.{AreChanged, IsLayerChanged, slot_set_moving}
use Rattle.ps_turn.proofs.inputs.give_row.Given as goal

-- the slots of the layers passed by have the motion, and there is room as before
abbrev pub invariant-loop-found : goal.invariant-loop-found
invariant-loop-found g l =
    let start : Grid = g.B.Board.grid l.fn.board in
    let now : Grid = g.B.Board.grid l.board in
    record {
      changed : AreChanged (map (slot_set_moving (l.fn.object ∷ []) l.fn.motion)) start now;
      reached : l.first ≤ start.layers;
      passed : (layer : ℕ) → layer < l.first →
          IsLayerChanged (slot_set_moving (l.fn.object ∷ []) l.fn.motion) start now layer l.fn.row;
      table : g.B.Board.table l.board ≡ g.B.Board.table l.fn.board;
      origin : g.B.Board.origin l.board ≡ g.B.Board.origin l.fn.board;
    }

abbrev pub decreases-loop-found : goal.decreases-loop-found
decreases-loop-found g l = (g.B.Board.grid l.fn.board).layers - l.first
