use Rattle.ps_engine.specs.Scratch.{SectionHasScratch}
use Rattle.ps_engine.proofs.EnoughScratch.{AllBefore}
use Rattle.ps_engine.proofs.scratch.most_rows.Given as goal

-- there is room for what was passed by
abbrev pub invariant-loop-section : goal.invariant-loop-section
invariant-loop-section l = AllBefore (SectionHasScratch l.most) l.sections l.section-index
