-- What is wrong with a command line that isn't obeyed. What clap finds wrong is its own matter: nothing is said here of
-- which lines it refuses. The other faults are told only of lines with the words that they speak of.
use Rattle.std.specs.Prelude.{◌≡◌, ◌⊎◌, ⊤, true, List, Some, None, codes, is_some}
use Rattle.clap.specs.Words.{Row, all_of, first_of}
use Rattle.ps_devices.specs.declared.players.RunFault.TheVariants as fault
use Rattle.ps_command.specs.AskedFor.{names_more}
use Rattle.ps_command.specs.Given.{is_given}
use Rattle.ps_command.specs.declared.stops.Stop.{Stop}
use Rattle.ps_command.specs.declared.stops.Stop.TheVariants as stop

-- so a line is refused in which clap matched these rows: an option is there whose value isn't right or doesn't fit the
-- task, further files have none, GAME is missing; or memory ran out as it was read
abbrev pub IsFaultOfRows : List Row → Stop → Type 0
IsFaultOfRows rows stop.NoSize =
    (is_some (first_of (codes "view") rows) ≡ true) ⊎ (is_some (first_of (codes "show") rows) ≡ true)
IsFaultOfRows rows stop.NoLevel =
    (is_some (first_of (codes "level") rows) ≡ true) ⊎ (is_some (all_of (codes "FURTHER") rows) ≡ true)
IsFaultOfRows rows stop.NoLimit = is_some (first_of (codes "limit") rows) ≡ true
IsFaultOfRows rows stop.NoFormat = is_some (first_of (codes "format") rows) ≡ true
IsFaultOfRows rows stop.NoStates = is_some (first_of (codes "states") rows) ≡ true
IsFaultOfRows rows stop.NoTask = names_more rows ≡ true
IsFaultOfRows rows stop.OneGame = is_some (first_of (codes "after") rows) ≡ true
IsFaultOfRows rows stop.OneInput = first_of (codes "GAME") rows ≡ Some (codes "-")
IsFaultOfRows rows stop.ReplayedLevel =
    (is_given (codes "replay") rows ≡ true) × (is_some (first_of (codes "level") rows) ≡ true)
IsFaultOfRows rows stop.NoStreams = is_given (codes "replay") rows ≡ true
IsFaultOfRows rows stop.Game = first_of (codes "GAME") rows ≡ None
IsFaultOfRows rows (stop.Run fault.Memory) = ⊤
IsFaultOfRows rows _ = ⊥

-- clap refuses the words, or memory ran out as it read them
abbrev pub IsFaultOfWords : Stop → Type 0
IsFaultOfWords (stop.CommandLine _) = ⊤
IsFaultOfWords (stop.Run fault.Memory) = ⊤
IsFaultOfWords _ = ⊥

-- the one or the other
abbrev pub IsFaultOfLine : List Row → Stop → Type 0
IsFaultOfLine rows why = IsFaultOfWords why ⊎ IsFaultOfRows rows why
