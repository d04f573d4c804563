use Rattle.std.proofs.Common.{◌≡◌, ◌-◌, drop}
use Rattle.ps_model.specs.text.Lines.{lines_of}
use Rattle.ps_model.specs.text.Sections.{header_lines, has_section}
use Rattle.ps_causes.proofs.headers.has_section.Given as goal

-- no line passed by begins the section
abbrev pub invariant-loop-line : goal.invariant-loop-line
invariant-loop-line l = has_section (header_lines (drop (l.line - 1) (lines_of l.source))) l.section ≡ has_section
    (header_lines (lines_of l.source)) l.section
