-- What looks for a game and hands on why a part of its text is refused, or that memory is.
use Rattle.std.proofs.Common.{◌≡◌, ◌∙◌, sym, List, Option, Some, Result, Ok, Err}
use Rattle.std.specs.Result.{IsErrAnd}
use Rattle.ps_model.specs.declared.faults.Fault.{Fault}
use Rattle.ps_model.specs.declared.refusal.Refusal.{Refusal}
use Rattle.ps_model.specs.declared.refusal.Refusal.TheVariants.{Refused, Memory}
use Rattle.ps_model.specs.text.Faults.{first_fault}
use Rattle.ps_levels.proofs.Refusals.{memory-refuses}
use Rattle.ps_game.specs.Finds.{Finds}

pub refused-finds : {A : Type 0} (result : Result A Refusal) (error : Refusal) (found : Option A)
    (faults : List Fault) → IsErrAnd result (λ e. e ≡ error)
    → ((fault : Fault) → error ≡ Refused fault → first_fault faults ≡ Some fault) → Finds result found faults
refused-finds (Ok read) error found faults is told = absurd is
refused-finds (Err e) error found faults is told = (tt, λ fault h. told fault (sym is ∙ h))

pub memory-finds : {A : Type 0} (result : Result A Refusal) (found : Option A) (faults : List Fault) →
    IsErrAnd result (λ e. e ≡ Memory) → Finds result found faults
memory-finds (Ok read) found faults is = absurd is
memory-finds (Err e) found faults is = (tt, λ fault h. memory-refuses e fault is h)
