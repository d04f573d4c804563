-- What is told of a fault below the line of a check.
use Rattle.std.specs.Prelude.{◌≡◌, Bool, true, false, Option, Some, List, ℕ, [], ◌++◌, is_some}
use Rattle.ps_model.specs.declared.faults.Fault.{Fault}
use Rattle.ps_model.specs.game.Games.{faults, game}
use Rattle.ps_model.specs.text.Faults.{first_fault}
use Rattle.ps_devices.specs.Devices.{Grows}
use Rattle.ps_report.specs.Details.{AreLinesOn}
use Rattle.ps_report.specs.declared.details.Detail.{Detail}
use Rattle.ps_report.specs.declared.details.Detail.TheVariants.{Line, Why}

-- of a text that is a game nothing is told; of another one lines on its first fault
abbrev pub IsTold : Bool → List ℕ → List ℕ → Type 0
IsTold true text lines = lines ≡ []
IsTold false text lines = (fault : Fault) → first_fault (faults text) ≡ Some fault → AreLinesOn text fault lines

-- what stands below the line on a text: nothing, where that line alone is asked for
abbrev pub IsDetail : Detail → List ℕ → List ℕ → Type 0
IsDetail Line text lines = lines ≡ []
IsDetail Why text lines = IsTold (is_some (game text)) text lines

-- a writer has taken what stands below the line on a text
pub record TellsDetail (detail : Detail) (text : List ℕ) (before after : Option (List ℕ)) : Type 0 where
  pub more : List ℕ
  pub is : IsDetail detail text more
  pub wrote : Grows before after more

-- a writer has taken a line on a text, and what stands below it
pub record TellsOn (detail : Detail) (text line : List ℕ) (before after : Option (List ℕ)) : Type 0 where
  pub more : List ℕ
  pub is : IsDetail detail text more
  pub wrote : Grows before after (line ++ more)
