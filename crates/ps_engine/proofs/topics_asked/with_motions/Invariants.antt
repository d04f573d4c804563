use Rattle.ps_match.specs.Topics.{HasTopicsOf}
use Rattle.ps_engine.specs.TopicsAsked.{HasMotion}
use Rattle.ps_engine.proofs.EnoughScratch.{AllBefore}
use Rattle.ps_engine.proofs.topics_asked.with_motions.Given as goal

-- the topics of what was passed by
abbrev pub invariant-loop-test : goal.invariant-loop-test
invariant-loop-test l = record {
  kept : HasTopicsOf l.fn.before l.topics;
  asked : AllBefore (HasMotion l.topics) l.tests l.test-index;
}
