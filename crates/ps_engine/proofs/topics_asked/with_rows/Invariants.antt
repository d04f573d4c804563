use Rattle.ps_match.specs.Topics.{HasTopicsOf}
use Rattle.ps_engine.specs.TopicsAsked.{HasParts}
use Rattle.ps_engine.proofs.EnoughScratch.{AllBefore}
use Rattle.ps_engine.proofs.topics_asked.with_rows.Given as goal

-- the topics of what was passed by
abbrev pub invariant-loop-row : goal.invariant-loop-row
invariant-loop-row l = record {
  kept : HasTopicsOf l.fn.before l.topics;
  asked : AllBefore (λ row. HasParts l.topics row.parts) l.rows l.row-index;
}
