use Rattle.ps_match.specs.Topics.{HasTopicsOf}
use Rattle.ps_engine.specs.TopicsAsked.{HasPart}
use Rattle.ps_engine.proofs.EnoughScratch.{AllBefore}
use Rattle.ps_engine.proofs.topics_asked.with_parts.Given as goal

-- the topics of what was passed by
abbrev pub invariant-loop-part : goal.invariant-loop-part
invariant-loop-part l = record {
  kept : HasTopicsOf l.fn.before l.topics;
  asked : AllBefore (HasPart l.topics) l.parts l.part-index;
}
