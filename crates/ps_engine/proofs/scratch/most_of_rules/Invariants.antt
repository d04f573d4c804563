use Rattle.std.proofs.Common.{◌≤◌, length}
use Rattle.ps_engine.proofs.EnoughScratch.{AllBefore}
use Rattle.ps_engine.proofs.scratch.most_of_rules.Given as goal

-- there is room for what was passed by
abbrev pub invariant-loop-rule : goal.invariant-loop-rule
invariant-loop-rule l = record {
  least : l.least ≤ l.most;
  enough : AllBefore (λ rule. length rule.rows ≤ l.most) l.rules l.rule-index;
}
