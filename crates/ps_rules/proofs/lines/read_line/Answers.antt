use Rattle.std.proofs.Common.{◌≡◌, ◌∙◌, ℕ, [], Some, List, ap, sym, false}
use Rattle.ps_model.specs.declared.faults.Fault.{Fault as TheFault}
use Rattle.ps_model.specs.text.Faults.{first_fault}
use Rattle.ps_model.specs.text.LineNumbers.{line_at}
use Rattle.ps_model.specs.text.Lines.{Line}
use Rattle.ps_model.specs.rules.RuleFaults.{Above, faults_of_form, faults_of_line, has_left_out}
use Rattle.ps_model.specs.rules.RuleLines.{LineForm, form_of, line_of_form}
use Rattle.ps_model.specs.rules.RuleSymbols.{Token, tokens_of, tokens_kept}
use Rattle.ps_laws.proofs.common.FirstFaults.{first-front}
use Rattle.ps_rules.specs.AboveShown.{above_shown}
use Rattle.ps_rules.specs.FormsShown.{form_at, line_made}
use Rattle.ps_rules.specs.RulesShown.{line_shown}
use Rattle.ps_rules.specs.SymbolsShown.{tokens_shown}
use Rattle.ps_model.specs.declared.refusal.Refusal.{Refusal}
use Rattle.ps_model.specs.declared.refusal.Refusal.TheVariants.{Refused}
use Rattle.ps_rules.specs.declared.lines.Read.{Read}
use Rattle.ps_names.proofs.common.Refused.{refused-reads-as}
use Rattle.ps_rules.proofs.FormSteps.{next-of-form, count-of-form, line-count}
use Rattle.ps_rules.proofs.lines.read_line.Goals as goal

pub returns-in_err-made-clause-read : goal.returns-in_err-made-clause-read
returns-in_err-made-clause-read c =
    let text : List ℕ = c.args.source.now in
    let line : Line = line_at text c.args.line in
    let above : Above = above_shown c.args.above in
    let form : LineForm = form_at text c.args.line c.args.names.now in
    let tokens : tokens_shown c.deref.result.now ≡ tokens_of c.args.names.now line =
    ap tokens_shown c.deref.ensures.value ∙ c.in_ok-tokens.ensures in
    let kept : tokens_shown c.deref-2.result.now ≡ tokens_kept (tokens_of c.args.names.now line) =
    ap tokens_shown c.deref-2.ensures.value ∙ c.in_ok-kept.ensures ∙ ap tokens_kept tokens in
    let fault : Refusal = c.in_err-made.field-0.0 in
    let told : (f : TheFault) → fault ≡ Refused f →
    first_fault (faults_of_line above c.args.line (tokens_of c.args.names.now line) form) ≡ Some f =
    λ f e. first-front (faults_of_form above c.args.line form) _ f
    (ap (λ (ts : List Token). first_fault (faults_of_form above c.args.line (form_of line ts))) (sym kept)
    ∙ c.in_err-made.ensures.1.1 f e) in
    refused-reads-as (λ (read : Read). line_made read.line) c.from_residual-in_err-made.result fault (line_of_form form)
    (faults_of_line above c.args.line (tokens_of c.args.names.now line) form)
    c.from_residual-in_err-made.ensures.1 told

pub returns-in_err-next-clause-read : goal.returns-in_err-next-clause-read
returns-in_err-next-clause-read c =
    let text : List ℕ = c.args.source.now in
    let line : Line = line_at text c.args.line in
    let above : Above = above_shown c.args.above in
    let form : LineForm = form_at text c.args.line c.args.names.now in
    let tokens : tokens_shown c.deref.result.now ≡ tokens_of c.args.names.now line =
    ap tokens_shown c.deref.ensures.value ∙ c.in_ok-tokens.ensures in
    let kept : tokens_shown c.deref-2.result.now ≡ tokens_kept (tokens_of c.args.names.now line) =
    ap tokens_shown c.deref-2.ensures.value ∙ c.in_ok-kept.ensures ∙ ap tokens_kept tokens in
    let part : line_of_form form ≡ Some (line_shown c.in_ok-made.made) =
    ap (λ (ts : List Token). line_of_form (form_of line ts)) (sym kept) ∙ sym c.in_ok-made.ensures.0 in
    let fine : faults_of_form above c.args.line form ≡ [] =
    ap (λ (ts : List Token). faults_of_form above c.args.line (form_of line ts)) (sym kept)
    ∙ c.in_ok-made.ensures.1.0 in
    let whole : has_left_out (tokens_of c.args.names.now line) ≡ false =
    ap has_left_out (sym (ap tokens_shown c.deref-3.ensures.value ∙ c.in_ok-tokens.ensures)) ∙ sym c.has_kind.ensures
    ∙ c.if-has_kind.false in
    let fault : Refusal = c.in_err-next.field-0.0 in
    let told : (f : TheFault) → fault ≡ Refused f →
    first_fault (faults_of_line above c.args.line (tokens_of c.args.names.now line) form) ≡ Some f =
    λ f e. ap first_fault (line-count above c.args.line (tokens_of c.args.names.now line) form fine whole
    ∙ sym (count-of-form above c.args.line form _ part)) ∙ c.in_err-next.ensures.1.1 f e in
    refused-reads-as (λ (read : Read). line_made read.line) c.from_residual-in_err-next.result fault (line_of_form form)
    (faults_of_line above c.args.line (tokens_of c.args.names.now line) form)
    c.from_residual-in_err-next.ensures.1 told

pub returns-clause-above : goal.returns-clause-above
returns-clause-above c =
    let line : Line = line_at c.args.source.now c.args.line in
    let form : LineForm = form_at c.args.source.now c.args.line c.args.names.now in
    let tokens : tokens_shown c.deref.result.now ≡ tokens_of c.args.names.now line =
    ap tokens_shown c.deref.ensures.value ∙ c.in_ok-tokens.ensures in
    let kept : tokens_shown c.deref-2.result.now ≡ tokens_kept (tokens_of c.args.names.now line) =
    ap tokens_shown c.deref-2.ensures.value ∙ c.in_ok-kept.ensures ∙ ap tokens_kept tokens in
    let part : line_of_form form ≡ Some (line_shown c.in_ok-made.made) =
    ap (λ (ts : List Token). line_of_form (form_of line ts)) (sym kept) ∙ sym c.in_ok-made.ensures.0 in
    c.in_ok-next.ensures.0 ∙ next-of-form (above_shown c.args.above) c.args.line form _ part

pub returns-clause-read : goal.returns-clause-read
returns-clause-read c =
    let line : Line = line_at c.args.source.now c.args.line in
    let above : Above = above_shown c.args.above in
    let form : LineForm = form_at c.args.source.now c.args.line c.args.names.now in
    let tokens : tokens_shown c.deref.result.now ≡ tokens_of c.args.names.now line =
    ap tokens_shown c.deref.ensures.value ∙ c.in_ok-tokens.ensures in
    let kept : tokens_shown c.deref-2.result.now ≡ tokens_kept (tokens_of c.args.names.now line) =
    ap tokens_shown c.deref-2.ensures.value ∙ c.in_ok-kept.ensures ∙ ap tokens_kept tokens in
    let part : line_of_form form ≡ Some (line_shown c.in_ok-made.made) =
    ap (λ (ts : List Token). line_of_form (form_of line ts)) (sym kept) ∙ sym c.in_ok-made.ensures.0 in
    let fine : faults_of_form above c.args.line form ≡ [] =
    ap (λ (ts : List Token). faults_of_form above c.args.line (form_of line ts)) (sym kept)
    ∙ c.in_ok-made.ensures.1.0 in
    let whole : has_left_out (tokens_of c.args.names.now line) ≡ false =
    ap has_left_out (sym (ap tokens_shown c.deref-3.ensures.value ∙ c.in_ok-tokens.ensures)) ∙ sym c.has_kind.ensures
    ∙ c.if-has_kind.false in (
      sym part,
      (
        line-count above c.args.line (tokens_of c.args.names.now line) form fine whole
            ∙ sym (count-of-form above c.args.line form _ part) ∙ c.in_ok-next.ensures.1.0,
        tt,
      ),
    )
