-- What may stop the program while it does what it was asked for: of each task what can, and what goes for it then.
use Rattle.std.specs.Prelude.{◌≡◌, ◌⊎◌, ℕ, Bool, true, Option, Some, List}
use Rattle.ps_model.specs.declared.faults.Fault.{Fault}
use Rattle.ps_model.specs.game.Games.{faults}
use Rattle.ps_model.specs.text.Faults.{first_fault}
use Rattle.ps_devices.specs.declared.players.RunFault.TheVariants as fault
use Rattle.ps_command.specs.declared.command.Asked.{Asked}
use Rattle.ps_command.specs.declared.command.Asked.TheVariants as asked
use Rattle.ps_command.specs.declared.stops.Stop.{Stop}
use Rattle.ps_command.specs.declared.stops.Stop.TheVariants as stop

-- what is read, and the screen ----------------------------------------------------------------------------------------

-- a text can't be read, or memory ran out before it was
abbrev pub IsUnread : Stop → Type 0
IsUnread why = (why ≡ stop.Game) ⊎ (why ≡ stop.Run fault.Memory)

-- keys can't be read, or are too many, or memory ran out before they were
abbrev pub IsUnkeyed : Stop → Type 0
IsUnkeyed why = (why ≡ stop.Run fault.Read) ⊎ ((why ≡ stop.TooManyKeys) ⊎ (why ≡ stop.Run fault.Memory))

-- a text or a file of keys can't be read, or memory ran out before they were
abbrev pub IsUnplayed : Stop → Type 0
IsUnplayed why = IsUnread why ⊎ (why ≡ stop.Run fault.Read)

-- the screen has failed
abbrev pub IsUnwritten : Bool → Stop → Type 0
IsUnwritten screen_failed why = (why ≡ stop.Run fault.Write) × (screen_failed ≡ true)

-- tasks ---------------------------------------------------------------------------------------------------------------

-- checks and descriptions: a text can't be read, memory ran out, the screen failed; or not all is well with the texts
abbrev pub StopsCheck : Bool → Stop → Type 0
StopsCheck screen_failed why = IsUnread why ⊎ (IsUnwritten screen_failed why ⊎ (why ≡ stop.NotAccepted))

-- replays: the same, or keys can't be read or are too many
abbrev pub StopsReplay : Bool → Stop → Type 0
StopsReplay screen_failed why = StopsCheck screen_failed why ⊎ IsUnkeyed why

-- searches: a text can't be read, memory ran out, the screen failed; or not all levels are known to be won
abbrev pub StopsSearch : Stop → Type 0
StopsSearch why = IsUnread why ⊎ ((why ≡ stop.Run fault.Write) ⊎ (why ≡ stop.NotAccepted))

-- the game has no level of some number
pub record IsLacking (why : Stop) : Type 0 where
  pub level : ℕ
  pub levels : ℕ
  pub is : why ≡ stop.NoSuchLevel level levels

-- a search after keys: the same, or keys can't be read, are too many, or lead to no level; or there is no such level as
-- that at which they begin
abbrev pub StopsSearchAfter : Stop → Type 0
StopsSearchAfter why =
    StopsSearch why ⊎ (IsUnkeyed why ⊎ ((why ≡ stop.NoLevelThere) ⊎ IsLacking why))

-- an output that is shown: the text or the output can't be read, memory ran out, the screen failed
abbrev pub StopsShow : Stop → Type 0
StopsShow why = IsUnread why ⊎ ((why ≡ stop.Output) ⊎ (why ≡ stop.Run fault.Write))

-- some text is refused, with its first fault
pub record IsRefusal (why : Stop) : Type 0 where
  pub text : List ℕ
  pub found : Fault
  pub first : first_fault (faults text) ≡ Some found
  pub is : why ≡ stop.Run (fault.Refused found)

-- the game has no level of the number that was asked for
pub record LacksAsked (level : Option ℕ) (why : Stop) : Type 0 where
  pub number : ℕ
  pub levels : ℕ
  pub asked : level ≡ Some number
  pub is : why ≡ stop.NoSuchLevel number levels

-- a game that is played, from the start or from the level of that number: the text or keys can't be read, memory ran
-- out, the screen failed; or the text is refused, or its game lacks the level
abbrev pub StopsPlay : Option ℕ → Stop → Type 0
StopsPlay level why =
    IsUnplayed why ⊎ ((why ≡ stop.Run fault.Write) ⊎ (IsRefusal why ⊎ LacksAsked level why))

-- what a fault is: no fault has the code, memory ran out, the screen failed
abbrev pub StopsExplanation : Bool → Stop → Type 0
StopsExplanation screen_failed why =
    (why ≡ stop.NoSuchCode) ⊎ ((why ≡ stop.Run fault.Memory) ⊎ IsUnwritten screen_failed why)

-- all of them
abbrev pub StopsTask : Asked → Bool → Stop → Type 0
StopsTask (asked.Play play) screen_failed why = StopsPlay play.level why
StopsTask (asked.Check _) screen_failed why = StopsCheck screen_failed why
StopsTask (asked.CheckAll _) screen_failed why = StopsCheck screen_failed why
StopsTask (asked.CheckWhy _) screen_failed why = StopsCheck screen_failed why
StopsTask (asked.CheckAllWhy _) screen_failed why = StopsCheck screen_failed why
StopsTask (asked.Report _ _) screen_failed why = StopsCheck screen_failed why
StopsTask (asked.Reports _ _) screen_failed why = StopsCheck screen_failed why
StopsTask (asked.Description _) screen_failed why = StopsCheck screen_failed why
StopsTask (asked.Explanation _) screen_failed why = StopsExplanation screen_failed why
StopsTask (asked.Show _) screen_failed why = StopsShow why
StopsTask (asked.Solve _) screen_failed why = StopsSearch why
StopsTask (asked.SolveAfter _) screen_failed why = StopsSearchAfter why
StopsTask (asked.Replay _) screen_failed why = StopsReplay screen_failed why
