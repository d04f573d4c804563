use Rattle.std.proofs.Common.{}
use Rattle.ps_engine.proofs.AskedRows.{HavePlaces}
use Rattle.ps_engine.proofs.asking.rows_have_places.Given as goal

-- the rows passed by have places
abbrev pub invariant-loop-number : goal.invariant-loop-number
invariant-loop-number g l = HavePlaces (g.B.Board.grid l.board) (g.B.Board.table l.board) l.rule.rows l.number
