use Rattle.std.proofs.Common.{rules, ◌≡◌, ◌∙◌, ◌++◌, ℕ, List, ap, sym, true, false}
use Rattle.ps_model.specs.declared.faults.Fault.{Fault as TheFault}
use Rattle.ps_model.specs.text.LineNumbers.{line_at}
use Rattle.ps_model.specs.text.Lines.{Line, is_blank_line}
use Rattle.ps_model.specs.rules.RuleFaults.{Above, above_next, faults_below}
use Rattle.ps_model.specs.rules.RuleLines.{lines_with_words, rules_read}
use Rattle.ps_model.specs.rules.SourceRules.{RuleLine}
use Rattle.ps_rules.specs.AboveShown.{above_shown}
use Rattle.ps_rules.specs.FormsShown.{form_at}
use Rattle.ps_rules.specs.RefusedLines.{IsRefused}
use Rattle.ps_rules.specs.RulesShown.{line_shown, lines_shown}
use Rattle.ps_rules.specs.declared.tree.RuleLine.{RuleLine as CodeLine}
use Rattle.ps_model.specs.declared.refusal.Refusal.{Refusal}
use Rattle.ps_model.specs.declared.refusal.Refusal.TheVariants.{Refused}
use Rattle.ps_rules.proofs.LineSteps.{below-step, rules-step, nothing-here, blank-here, blank-rules, line-kept}
use Rattle.ps_rules.proofs.read.over.Goals as goal

pub returns-then-not-is_there-clause-part : goal.returns-then-not-is_there-clause-part
returns-then-not-is_there-clause-part c = λ rest.
    ap (λ (ls : List Line). lines_shown c.args.made.now.items ++ rules_read c.args.names.now ls)
    (sym (nothing-here c.args.source.now c.args.line rest (sym c.is_there.ensures ∙ c.if-not-is_there.true)))

pub returns-then-not-is_there-clause-fine : goal.returns-then-not-is_there-clause-fine
returns-then-not-is_there-clause-fine c = λ rest.
    ap (λ (ls : List Line). faults_below c.args.names.now (above_shown c.args.above) (lines_with_words ls))
    (sym (nothing-here c.args.source.now c.args.line rest (sym c.is_there.ensures ∙ c.if-not-is_there.true)))

pub returns-then-is_blank_line-clause-part : goal.returns-then-is_blank_line-clause-part
returns-then-is_blank_line-clause-part c = λ rest.
    ap (λ (rs : List RuleLine). lines_shown c.args.made.now.items ++ rs)
    (sym (blank-rules c.args.source.now c.args.line c.args.names.now rest
    (sym c.is_there.ensures ∙ c.if-not-is_there.false) (sym c.is_blank_line.ensures ∙ c.if-is_blank_line.true)))

pub returns-then-is_blank_line-clause-fine : goal.returns-then-is_blank_line-clause-fine
returns-then-is_blank_line-clause-fine c = λ rest.
    ap (λ (ls : List Line). faults_below c.args.names.now (above_shown c.args.above) ls)
    (sym (blank-here c.args.source.now c.args.line rest
    (sym c.is_there.ensures ∙ c.if-not-is_there.false) (sym c.is_blank_line.ensures ∙ c.if-is_blank_line.true)))

pub returns-in_err-read-clause-refused : goal.returns-in_err-read-clause-refused
returns-in_err-read-clause-refused c =
    let text : List ℕ = c.args.source.now in
    let there : (line_at text c.args.line).is_there ≡ true = sym c.is_there.ensures ∙ c.if-not-is_there.false in
    let written : is_blank_line (line_at text c.args.line) ≡ false =
    sym c.is_blank_line.ensures ∙ c.if-is_blank_line.false in
    let fault : Refusal = c.in_err-read.field-0.0 in
    let told : (f : TheFault) → fault ≡ Refused f →
    IsRefused text c.args.line c.args.names.now (above_shown c.args.above) f =
    λ f e. record { there = there; written = written; told = c.in_err-read.ensures.read.1.1 f e } in
    search (rules, told)

pub returns-clause-fine : goal.returns-clause-fine
returns-clause-fine c = λ rest.
    let text : List ℕ = c.args.source.now in
    let there : (line_at text c.args.line).is_there ≡ true = sym c.is_there.ensures ∙ c.if-not-is_there.false in
    let written : is_blank_line (line_at text c.args.line) ≡ false =
    sym c.is_blank_line.ensures ∙ c.if-is_blank_line.false in
    let next : Above = above_next (above_shown c.args.above) c.args.line (form_at text c.args.line c.args.names.now) in
    ap (λ (a : Above). faults_below c.args.names.now a (lines_with_words rest)) c.in_ok-read.ensures.above
    ∙ sym (
    below-step text c.args.line c.args.names.now (above_shown c.args.above) rest c.requires there written
    ∙ ap (λ (fs : List TheFault). fs ++ faults_below c.args.names.now next (lines_with_words rest))
    c.in_ok-read.ensures.read.1.0
    )

pub returns-clause-part : goal.returns-clause-part
returns-clause-part c = λ rest.
    let text : List ℕ = c.args.source.now in
    ap (λ (ls : List CodeLine). lines_shown ls ++ rules_read c.args.names.now rest) c.in_ok-push.ensures.items
    ∙ line-kept c.args.made.now.items c.in_ok-read.read.line (rules_read c.args.names.now rest)
    ∙ ap (λ (rs : List RuleLine). lines_shown c.args.made.now.items ++ rs)
    (sym (rules-step text c.args.line c.args.names.now rest (line_shown c.in_ok-read.read.line)
    (sym c.is_there.ensures ∙ c.if-not-is_there.false) (sym c.is_blank_line.ensures ∙ c.if-is_blank_line.false)
    (sym c.in_ok-read.ensures.read.0)))
