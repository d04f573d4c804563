-- What reading a part of a text answers: its value, where it has no fault, or its first fault; or that memory was
-- refused.
use Rattle.std.specs.Prelude.{◌≡◌, List, [], Some, Result, IfOk, OnOk, IfErr}
use Rattle.ps_model.specs.declared.faults.Fault.{Fault}
use Rattle.ps_model.specs.declared.refusal.Refusal.{Refusal}
use Rattle.ps_model.specs.declared.refusal.Refusal.TheVariants.{Refused}
use Rattle.ps_model.specs.text.Faults.{first_fault}

-- what reading answers of a part that has this value and these faults
abbrev pub Reads : {A : Type 0} → Result A Refusal → A → List Fault → Type 0
Reads result value faults =
    IfOk result (λ read. read ≡ value)
    × (OnOk result (faults ≡ []) × IfErr result (λ e. (fault : Fault) → e ≡ Refused fault →
    first_fault faults ≡ Some fault))

-- the same of what is seen as its value by a view
abbrev pub ReadsAs : {A B : Type 0} → (A → B) → Result A Refusal → B → List Fault → Type 0
ReadsAs view result value faults =
    IfOk result (λ read. view read ≡ value)
    × (OnOk result (faults ≡ []) × IfErr result (λ e. (fault : Fault) → e ≡ Refused fault →
    first_fault faults ≡ Some fault))
