use Rattle.std.proofs.Common.{rules, arith, ◌≡◌, ◌∙◌, ◌++◌, ◌+◌, ℕ, Some, None, List, ap, sym, refl}
use Rattle.ps_model.specs.declared.faults.Fault.{Fault as TheFault}
use Rattle.ps_model.specs.text.Faults.{first_fault}
use Rattle.ps_model.specs.text.LineNumbers.{lines_between}
use Rattle.ps_model.specs.text.Lines.{Line}
use Rattle.ps_model.specs.rules.RuleFaults.{rule_faults, faults_below}
use Rattle.ps_model.specs.rules.RuleLines.{rules_read, lines_with_words}
use Rattle.ps_rules.specs.AboveShown.{above_shown}
use Rattle.ps_rules.specs.RulesShown.{lines_shown}
use Rattle.ps_model.specs.declared.refusal.Refusal.{Refusal}
use Rattle.ps_model.specs.declared.refusal.Refusal.TheVariants.{Refused}
use Rattle.ps_laws.proofs.common.LinesInOrder.{between-step}
use Rattle.ps_names.proofs.common.Refused.{refused-reads}
use Rattle.ps_rules.proofs.LineSteps.{refused-step}
use Rattle.ps_rules.proofs.WholeLines.{made-whole}
use Rattle.ps_rules.proofs.read.read_rules.Goals as goal

pub returns-in_err-above : goal.returns-in_err-above
returns-in_err-above c =
    let text : List ℕ = c.args.source.now in
    let end : ℕ = c.args.lines.end in
    let line : ℕ = c.loop-line.line in
    let step = between-step text line (line + 1) end (omega arith) (omega arith) (omega arith) refl in
    let fault : Refusal = c.in_err-above.field-0.0 in
    let told : (f : TheFault) → fault ≡ Refused f →
    first_fault (rule_faults c.args.names.now (lines_between text c.args.lines.start end)) ≡ Some f =
    λ f e.
    let own = c.in_err-above.ensures.refused f e in
    ap first_fault (
    sym c.loop-line.invariant.1 ∙ ap (λ (xs : List Line).
    faults_below c.args.names.now (above_shown c.loop-line.above) (lines_with_words xs)) step
    ) ∙ refused-step text line c.args.names.now (above_shown c.loop-line.above) (lines_between text (line + 1) end) f
    (omega arith, omega arith) own in
    refused-reads c.from_residual.result fault
    (rules_read c.args.names.now (lines_between text c.args.lines.start end))
    (rule_faults c.args.names.now (lines_between text c.args.lines.start end)) c.from_residual.ensures.1 told

pub loop-line-preserved : goal.loop-line-preserved
loop-line-preserved c =
    let text : List ℕ = c.args.source.now in
    let end : ℕ = c.args.lines.end in
    let line : ℕ = c.loop-line.line in
    let rest : List Line = lines_between text (line + 1) end in
    let step = between-step text line (line + 1) end (omega arith) (omega arith) (omega arith) refl in (
      c.in_ok-above.ensures.part rest ∙ ap (λ (xs : List Line).
          lines_shown c.loop-line.made.items ++ rules_read c.args.names.now xs) (sym step) ∙ c.loop-line.invariant.0,
      c.in_ok-above.ensures.fine rest
          ∙ ap (λ (xs : List Line). faults_below c.args.names.now (above_shown c.loop-line.above)
          (lines_with_words xs)) (sym step) ∙ c.loop-line.invariant.1,
    )

pub invariant_of-result : goal.invariant_of-result
invariant_of-result c =
    let closed : c.loop-line.above.start ≡ None = search rules in
    made-whole c.args.source.now c.args.names.now c.args.lines.start c.loop-line.line c.args.lines.end
    (above_shown c.loop-line.above) (lines_shown c.loop-line.made.items)
    (omega arith) closed c.loop-line.invariant.0 c.loop-line.invariant.1
