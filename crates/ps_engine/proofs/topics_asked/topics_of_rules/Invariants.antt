use Rattle.ps_engine.specs.TopicsAsked.{HasRows}
use Rattle.ps_engine.proofs.EnoughScratch.{AllBefore}
use Rattle.ps_engine.proofs.topics_asked.topics_of_rules.Given as goal

-- the topics of what was passed by
abbrev pub invariant-loop-rule : goal.invariant-loop-rule
invariant-loop-rule l = AllBefore (λ rule. HasRows l.topics rule.rows) l.rules l.rule-index
