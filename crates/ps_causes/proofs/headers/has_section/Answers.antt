use Rattle.std.proofs.Common.{◌≡◌, ◌+◌, ◌-◌, ◌∙◌, sym, ap, arith, Bool, true, false, List, ℕ, drop}
use Rattle.std.specs.Prelude.{◌||◌}
use Rattle.ps_model.specs.text.Lines.{lines_of}
use Rattle.ps_model.specs.text.LineNumbers.{line_at}
use Rattle.ps_model.specs.text.Sections.{header_lines, has_section}
use Rattle.ps_causes.specs.Causes.{begins}
use Rattle.ps_causes.proofs.HeaderLines.{headers-step}
use Rattle.ps_causes.proofs.headers.has_section.Goals as goal

pub returns-then-begins : goal.returns-then-begins
returns-then-begins c =
    let text : List ℕ = c.args.source.now in
    let line : ℕ = c.loop-line.line in
    let is : begins c.args.section (line_at text line) ≡ true = sym c.begins.ensures ∙ c.if-begins.true in
    sym (headers-step text c.args.section line (line + 1) (omega arith) (omega arith) (omega arith)
    ∙ ap (λ (b : Bool). b || has_section (header_lines (drop (line + 1 - 1) (lines_of text))) c.args.section) is)
    ∙ c.loop-line.invariant

pub loop-line-preserved : goal.loop-line-preserved
loop-line-preserved c =
    let text : List ℕ = c.args.source.now in
    let line : ℕ = c.loop-line.line in
    let is : begins c.args.section (line_at text line) ≡ false = sym c.begins.ensures ∙ c.if-begins.false in
    sym (headers-step text c.args.section line (line + 1) (omega arith) (omega arith) (omega arith)
    ∙ ap (λ (b : Bool). b || has_section (header_lines (drop (line + 1 - 1) (lines_of text))) c.args.section) is)
    ∙ c.loop-line.invariant
