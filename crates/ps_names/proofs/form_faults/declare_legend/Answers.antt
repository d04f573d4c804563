use Rattle.std.proofs.Common.{◌≡◌, ◌∙◌, sym, ap, refl, rules, List, ℕ, Some, suc}
use Rattle.ps_model.specs.declared.faults.Fault.{Fault as TheFault}
use Rattle.ps_model.specs.names.DeclarationFaults.{legend_form_faults, form_faults}
use Rattle.ps_model.specs.text.Faults.{first_fault}
use Rattle.ps_model.specs.declared.refusal.Refusal.{Refusal}
use Rattle.ps_model.specs.declared.refusal.Refusal.TheVariants.{Refused}
use Rattle.ps_laws.proofs.common.FirstFaults.{first-front}
use Rattle.ps_names.specs.declared.lines.WrittenLine.{WrittenLine}
use Rattle.ps_names.specs.Known.{keys}
use Rattle.ps_names.specs.LinesShown.{line_shown, lines_shown}
use Rattle.ps_names.proofs.common.Elements.{element-first}
use Rattle.ps_names.proofs.form_faults.declare_legend.Goals as goal

pub returns-in_err-declared-clause-reads : goal.returns-in_err-declared-clause-reads
returns-in_err-declared-clause-reads c =
    let before : List (List ℕ) = keys c.loop-place.known in
    let step = element-first c.args.lines.now c.loop-place.place (suc c.loop-place.place) c.index-lines-place.result _
    c.loop-place-test.true refl c.index-lines-place.is in
    let fault : Refusal = c.in_err-declared.field-0.0 in
    let told : (f : TheFault) → fault ≡ Refused f →
    first_fault (form_faults (keys c.args.known.now) (lines_shown c.args.lines.now)) ≡ Some f =
    λ f e. sym (ap first_fault c.loop-place.invariant.faults)
    ∙ ap (λ (xs : List WrittenLine). first_fault (form_faults before (lines_shown xs))) step
    ∙ first-front (legend_form_faults before (line_shown c.index-lines-place.result)) _ f
    (c.in_err-declared.ensures.reads.1.1 f e) in
    search (rules, told)
