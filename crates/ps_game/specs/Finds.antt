-- What looking for the game of a text answers: the game, where the text has one, or its first fault; or that memory was
-- refused.
use Rattle.std.specs.Prelude.{◌≡◌, List, Option, Some, Result, IfOk, IfErr}
use Rattle.ps_model.specs.declared.faults.Fault.{Fault}
use Rattle.ps_model.specs.declared.refusal.Refusal.{Refusal}
use Rattle.ps_model.specs.declared.refusal.Refusal.TheVariants.{Refused}
use Rattle.ps_model.specs.text.Faults.{first_fault}

-- what is answered of a text that has this, if it has one, and these faults
abbrev pub Finds : {A : Type 0} → Result A Refusal → Option A → List Fault → Type 0
Finds result found faults =
    IfOk result (λ read. found ≡ Some read)
    × IfErr result (λ e. (fault : Fault) → e ≡ Refused fault → first_fault faults ≡ Some fault)
