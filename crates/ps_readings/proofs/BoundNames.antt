-- What an item of the right asks, by what it is bound to.
use Rattle.std.proofs.Common.{◌≡◌, ℕ, Option, Some, None, refl}
use Rattle.ps_model.specs.declared.rules.MovementWord.{MovementWord}
use Rattle.ps_model.specs.names.Names.{Meaning, Names}
use Rattle.ps_model.specs.rules.SourceRules.{Is, CellPair, SourceRule}
use Rattle.ps_model.specs.meaning.Occurrences.{bound_name}
use Rattle.ps_model.specs.meaning.Readings.{Reading}
use Rattle.ps_model.specs.meaning.Wanted.{wanted_name, wanted_right}
use Rattle.ps_readings.specs.BoundMotions.{bound_motion}

pub wanted-bound : (names : Names) (rule : SourceRule) (cell : CellPair) (reading : Reading) (number : ℕ)
    (word : Option MovementWord) (meaning : Meaning) →
    wanted_right names rule cell reading (Is number word meaning) ≡ wanted_name names rule reading
    (bound_name rule cell meaning) meaning (bound_motion rule cell reading word meaning)
wanted-bound names rule cell reading number None meaning = refl
wanted-bound names rule cell reading number (Some word) meaning = refl
