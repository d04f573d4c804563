use Rattle.std.proofs.Common.{◌∙◌, sym, ap₂, ℕ, Bool}
use Rattle.ps_model.specs.text.LineNumbers.{line_at}
use Rattle.ps_model.specs.text.Sections.{rank, is_real_time}
use Rattle.ps_laws.proofs.common.LinesInOrder.{line_at-number}
use Rattle.ps_sections.specs.Headings.{is_late_header, fault_by}
use Rattle.ps_sections.proofs.headings.heading_fault.Goals as goal

pub returns : goal.returns
returns c =
    let line = line_at c.args.source.now c.args.line in
    let late = is_late_header (rank c.args.above) line in
    c.fault_of.ensures ∙ ap₂ (λ late real. fault_by late real c.in_ok-sizeless.sizeless c.args.line)
    c.is_late_header-late.ensures c.in_ok-real.ensures
    ∙ ap₂ (λ (sizeless : Bool) (n : ℕ). fault_by late (is_real_time line) sizeless n) c.in_ok-sizeless.ensures
    (sym (line_at-number c.args.source.now c.args.line c.requires.0 c.requires.1))
