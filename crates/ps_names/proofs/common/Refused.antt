-- A reader that hands on why a part of its text is refused.
use Rattle.std.proofs.Common.{◌≡◌, ◌∙◌, sym, List, Some, Result, Ok, Err}
use Rattle.std.specs.Result.{IsErrAnd}
use Rattle.ps_model.specs.declared.faults.Fault.{Fault}
use Rattle.ps_model.specs.declared.refusal.Refusal.{Refusal}
use Rattle.ps_model.specs.declared.refusal.Refusal.TheVariants.{Refused}
use Rattle.ps_model.specs.text.Faults.{first_fault}
use Rattle.ps_model.specs.text.Reads.{Reads, ReadsAs}

pub refused-reads : {A : Type 0} (result : Result A Refusal) (error : Refusal) (value : A) (faults : List Fault) →
    IsErrAnd result (λ e. e ≡ error)
    → ((fault : Fault) → error ≡ Refused fault → first_fault faults ≡ Some fault) → Reads result value faults
refused-reads (Ok read) error value faults is told = absurd is
refused-reads (Err e) error value faults is told = (tt, (tt, λ fault h. told fault (sym is ∙ h)))

-- the same of what is seen by a view
pub refused-reads-as : {A B : Type 0} (view : A → B) (result : Result A Refusal) (error : Refusal) (value : B)
    (faults : List Fault) → IsErrAnd result (λ e. e ≡ error) → ((fault : Fault) → error ≡ Refused fault →
    first_fault faults ≡ Some fault) → ReadsAs view result value faults
refused-reads-as view (Ok read) error value faults is told = absurd is
refused-reads-as view (Err e) error value faults is told = (tt, (tt, λ fault h. told fault (sym is ∙ h)))
