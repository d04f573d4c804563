use Rattle.std.proofs.Common.{◌≤◌}
use Rattle.ps_model.specs.text.Sections.{rank}
use Rattle.ps_sections.specs.SectionPlaces.{boundary}
use Rattle.ps_sections.proofs.sections.boundary.Given as goal

abbrev pub invariant-loop-line : goal.invariant-loop-line
invariant-loop-line l = l.line ≤ boundary l.source (rank l.section)
