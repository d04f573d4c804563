use Rattle.ps_engine.specs.Choosing.{AreForgotten, AreLeft}
use Rattle.ps_engine.proofs.walking.forget_rows.Given as goal

-- places of the rows passed by are forgotten
abbrev pub invariant-loop-number : goal.invariant-loop-number
invariant-loop-number g l = record {
  forgotten : AreForgotten l.rows l.fn.scratch l.scratch;
  left : AreLeft l.fn.scratch l.scratch l.number;
}
