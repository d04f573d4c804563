use Rattle.std.proofs.Common.{rules, ◌≡◌, ◌∙◌, arith, None, sym}
use Rattle.ps_model.specs.text.LineNumbers.{line_at}
use Rattle.ps_model.specs.text.Sections.{rank}
use Rattle.ps_sections.specs.Headings.{heading_fault}
use Rattle.ps_sections.proofs.HeadingsTold.{told_below, told_here, told_past}
use Rattle.ps_sections.proofs.headings.first_heading_fault.Goals as goal

pub loop-line-preserved : goal.loop-line-preserved
loop-line-preserved c =
    let text = c.args.source.now in
    let above = rank c.loop-line.above in
    let none : heading_fault above (line_at text c.loop-line.line) ≡ None = search rules in
    told_below text c.loop-line.line above (rank c.section_below-above.result) (omega arith) (omega arith) none
    c.section_below-above.ensures ∙ c.loop-line.invariant

pub returns-then-is_some : goal.returns-then-is_some
returns-then-is_some c =
    let text = c.args.source.now in
    told_here text c.loop-line.line (rank c.loop-line.above) c.in_ok-fault.fault (omega arith) (omega arith)
    c.in_ok-fault.ensures (sym c.is_some.ensures ∙ c.if-is_some.true) ∙ c.loop-line.invariant

pub returns : goal.returns
returns c = sym (told_past c.args.source.now c.loop-line.line (rank c.loop-line.above) (omega arith))
    ∙ c.loop-line.invariant
