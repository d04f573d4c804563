use Rattle.std.proofs.Common.{◌≡◌, drop}
use Rattle.ps_match.specs.InRoom.{own_write}
use Rattle.ps_match.proofs.slots.own_write.Given as goal

-- no write before was the layer's
abbrev pub invariant-loop-each : goal.invariant-loop-each
invariant-loop-each g l = own_write (g.B.Board.table l.board) l.layer.0 l.writes ≡ own_write (g.B.Board.table l.board)
    l.layer.0 (drop l.each-index l.writes)
