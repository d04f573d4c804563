use Rattle.std.proofs.Common.{◌≡◌, ◌+◌, ◌*◌, ◌<◌, ℕ, true, [], ◌∷◌, length, map}
use Rattle.ps_model.specs.board.Grid.{Grid, slot_at}
use Rattle.ps_model.specs.declared.limits.TheConstants.{SIDE_LIMIT}
use Rattle.ps_model.specs.meaning.Compiled.{slot_holds}
use Rattle.ps_board.specs.ColumnSets.{column_at, set_columns}
use Rattle.ps_board.proofs.Taken.{AreBelow, ArePassed}
use Rattle.ps_turn.specs.Sweeps.{AreChanged, IsSlotChanged, StayChanged, slot_set_moving}
use Rattle.ps_turn.proofs.inputs.give_layer.Given as goal

-- the object stands in the columns that are left, the slots of the others have the motion, and there is room as before
abbrev pub invariant-loop-column : goal.invariant-loop-column
invariant-loop-column g l =
    let start : Grid = g.B.Board.grid l.fn.board in
    let now : Grid = g.B.Board.grid l.board in
    record {
      changed : AreChanged (map (slot_set_moving (l.fn.object ∷ []) l.fn.motion)) start now;
      stays : StayChanged (slot_set_moving (l.fn.object ∷ []) l.fn.motion) start now;
      low : AreBelow start.width l.left;
      here : (x : ℕ) → x < SIDE_LIMIT → column_at l.left x ≡ true →
          slot_holds l.fn.object (slot_at start (x * start.height + l.row) (l.layer).0) ≡ true;
      passed : ArePassed
          (λ x. IsSlotChanged (slot_set_moving (l.fn.object ∷ []) l.fn.motion) now (x * start.height + l.row)
          (l.layer).0)
          start.width l.left;
      table : g.B.Board.table l.board ≡ g.B.Board.table l.fn.board;
      origin : g.B.Board.origin l.board ≡ g.B.Board.origin l.fn.board;
    }

abbrev pub decreases-loop-column : goal.decreases-loop-column
decreases-loop-column g l = length (set_columns l.left)
