use Rattle.std.proofs.Common.{◌≡◌, ◌∙◌, sym, ap, refl, rules, List, ℕ, is_some, true, suc}
use Rattle.ps_model.specs.names.DeclarationFaults.{faults_of_object, object_faults}
use Rattle.ps_model.specs.text.Faults.{first_fault}
use Rattle.ps_names.specs.Known.{keys}
use Rattle.ps_names.specs.LinesShown.{object_shown, objects_shown}
use Rattle.ps_names.specs.declared.objects.ObjectText.{ObjectText}
use Rattle.ps_names.proofs.common.Elements.{element-first}
use Rattle.ps_names.proofs.common.FirstFaults.{first-here}
use Rattle.ps_names.proofs.object_faults.fault_of_objects.Goals as goal

pub returns-then-is_some-clause-fault : goal.returns-then-is_some-clause-fault
returns-then-is_some-clause-fault c =
    let there : is_some c.in_ok-fault.fault ≡ true = search rules in
    let number : ℕ = c.loop-number.number in
    let before : List (List ℕ) = keys c.loop-number.known in
    let step = element-first c.args.objects.now number (suc number) c.index-objects-number.result _
    c.loop-number-test.true refl c.index-objects-number.is in
    first-here (faults_of_object number before (object_shown c.index-objects-number.result)) _ c.in_ok-fault.fault
    there c.in_ok-fault.ensures.fault
    ∙ ap (λ (xs : List ObjectText). first_fault (object_faults number before (objects_shown xs))) (sym step)
    ∙ c.loop-number.invariant.faults
