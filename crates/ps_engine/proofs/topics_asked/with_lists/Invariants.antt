use Rattle.std.specs.Prelude.{All}
use Rattle.ps_match.specs.Topics.{HasTopicsOf}
use Rattle.ps_engine.specs.TopicsAsked.{HasObject}
use Rattle.ps_engine.proofs.EnoughScratch.{AllBefore}
use Rattle.ps_engine.proofs.topics_asked.with_lists.Given as goal

-- the topics of what was passed by
abbrev pub invariant-loop-objects : goal.invariant-loop-objects
invariant-loop-objects l = record {
  kept : HasTopicsOf l.fn.before l.topics;
  asked : AllBefore (All (HasObject l.topics)) l.lists l.objects-index;
}
