-- What is known of a result that is passed on.
use Rattle.std.proofs.Common.{Ok, Err}
use Rattle.std.specs.Prelude.{Result, IfOk}

-- what holds of a value makes another thing hold
pub if_ok : {A E : Type 0} {P Q : A → Type 0} (result : Result A E) → IfOk result P → ((a : A) → P a → Q a) →
    IfOk result Q
if_ok (Ok value) holds makes = makes value holds
if_ok (Err error) holds makes = holds
