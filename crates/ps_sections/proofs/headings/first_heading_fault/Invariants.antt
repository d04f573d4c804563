use Rattle.std.proofs.Common.{◌≡◌, ◌-◌, drop}
use Rattle.ps_model.specs.text.Lines.{lines_of}
use Rattle.ps_model.specs.text.Sections.{rank}
use Rattle.ps_sections.specs.Headings.{headings_told}
use Rattle.ps_sections.proofs.headings.first_heading_fault.Given as goal

abbrev pub invariant-loop-line : goal.invariant-loop-line
invariant-loop-line l = headings_told (rank l.above) (drop (l.line - 1) (lines_of l.source)) ≡ headings_told 0
    (lines_of l.source)
