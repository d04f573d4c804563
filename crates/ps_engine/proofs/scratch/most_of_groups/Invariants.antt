use Rattle.std.proofs.Common.{◌≤◌}
use Rattle.ps_engine.specs.Scratch.{HaveScratch}
use Rattle.ps_engine.proofs.EnoughScratch.{AllBefore}
use Rattle.ps_engine.proofs.scratch.most_of_groups.Given as goal

-- there is room for what was passed by
abbrev pub invariant-loop-rules : goal.invariant-loop-rules
invariant-loop-rules l = record {
  least : l.least ≤ l.most;
  enough : AllBefore (HaveScratch l.most) l.groups l.rules-index;
}
