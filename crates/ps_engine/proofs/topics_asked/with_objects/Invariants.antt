use Rattle.ps_match.specs.Topics.{HasTopicsOf}
use Rattle.ps_engine.specs.TopicsAsked.{HasObject}
use Rattle.ps_engine.proofs.EnoughScratch.{AllBefore}
use Rattle.ps_engine.proofs.topics_asked.with_objects.Given as goal

-- the topics of what was passed by
abbrev pub invariant-loop-each : goal.invariant-loop-each
invariant-loop-each l = record {
  kept : HasTopicsOf l.fn.before l.topics;
  asked : AllBefore (HasObject l.topics) l.objects l.each-index;
}
