use Rattle.ps_engine.specs.Choosing.{AreLeft, AreStarted, HaveStartsOf}
use Rattle.ps_engine.proofs.walking.start_again.Given as goal

-- the rows passed by have started again
abbrev pub invariant-loop-number : goal.invariant-loop-number
invariant-loop-number g l = record {
  started : AreStarted (g.B.Board.grid l.board) (g.B.Board.table l.board) l.rows l.scratch l.number;
  same : HaveStartsOf l.fn.scratch l.scratch;
  left : AreLeft l.fn.scratch l.scratch l.number;
}
