-- Faults of a text, as a list in the order in which they are told: whoever refuses the text tells the first.
use Rattle.std.specs.Prelude.{ℕ, Bool, true, false, Option, Some, None, List, [], ◌∷◌}
use Rattle.ps_model.specs.declared.faults.Fault.{Fault}
use Rattle.ps_model.specs.declared.faults.FaultKind.{FaultKind}

-- a fault of that kind at a line, if the test holds
abbrev pub when : Bool → FaultKind → ℕ → List Fault
when true kind line = record { kind = kind; line = line } ∷ []
when false kind line = []

-- the first fault
abbrev pub first_fault : List Fault → Option Fault
first_fault [] = None
first_fault (fault ∷ others) = Some fault
