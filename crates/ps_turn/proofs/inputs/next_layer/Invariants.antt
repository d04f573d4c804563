use Rattle.ps_turn.specs.Sweeps.{StandsOnNone}
use Rattle.ps_turn.proofs.inputs.next_layer.Given as goal

-- the object stands on none of the layers passed by
abbrev pub invariant-loop-layer : goal.invariant-loop-layer
invariant-loop-layer g l = StandsOnNone l.object (g.B.Board.grid l.board) l.row l.first l.layer
