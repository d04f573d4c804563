use Rattle.ps_match.specs.Topics.{HasTopicsOf}
use Rattle.ps_engine.specs.TopicsAsked.{HasMask}
use Rattle.ps_engine.proofs.EnoughScratch.{AllBefore}
use Rattle.ps_engine.proofs.topics_asked.with_part.Given as goal

-- the topics of what was passed by
abbrev pub invariant-loop-cell : goal.invariant-loop-cell
invariant-loop-cell l = record {
  kept : HasTopicsOf l.fn.before l.topics;
  asked : AllBefore (λ cell. HasMask l.topics cell.mask) l.part l.cell-index;
}
