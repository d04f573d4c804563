-- A reader that hands on that memory is refused.
use Rattle.std.proofs.Common.{◌≡◌, List, Result, Ok, Err}
use Rattle.std.specs.Result.{IsErrAnd}
use Rattle.ps_model.specs.declared.faults.Fault.{Fault}
use Rattle.ps_model.specs.declared.refusal.Refusal.{Refusal}
use Rattle.ps_model.specs.declared.refusal.Refusal.TheVariants.{Refused, Memory}
use Rattle.ps_model.specs.text.Reads.{ReadsAs}

-- memory is no fault of the text
pub memory-refuses : {P : Type 0} (error : Refusal) (fault : Fault) → error ≡ Memory → error ≡ Refused fault → P
memory-refuses error fault m r = cc

pub memory-reads-as : {A B : Type 0} (view : A → B) (result : Result A Refusal) (value : B) (faults : List Fault) →
    IsErrAnd result (λ e. e ≡ Memory) → ReadsAs view result value faults
memory-reads-as view (Ok read) value faults is = absurd is
memory-reads-as view (Err e) value faults is = (tt, (tt, λ fault h. memory-refuses e fault is h))
