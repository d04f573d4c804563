-- What ends the program in place of a run's end, and the status that it ends with then.
use Rattle.std.specs.Prelude.{◌≡◌, ◌≢◌, ◌≤◌, ℕ}
use Rattle.clap.specs.Words.{kind_of}
use Rattle.clap.specs.declared.error.Error.{Error}
use Rattle.clap.specs.declared.error.kind.ErrorKind.TheVariants as kind
use Rattle.ps_check.specs.declared.faults.CheckFault.{CheckFault}
use Rattle.ps_check.specs.declared.faults.CheckFault.TheVariants as check
use Rattle.ps_devices.specs.declared.players.LevelFault.{LevelFault}
use Rattle.ps_devices.specs.declared.players.LevelFault.TheVariants as level
use Rattle.ps_devices.specs.declared.players.RunFault.TheVariants as fault
use Rattle.ps_command.specs.declared.stops.Stop.{Stop}
use Rattle.ps_command.specs.declared.stops.Stop.TheVariants as stop

-- of a command line that isn't obeyed: 2 where it isn't right; where it asks for help or the version, 0, or 1 where
-- that could not be told
pub record IsStatusOfLine (error : Error) (status : ℕ) : Type 0 where
  pub wrong : kind_of error ≢ kind.DisplayHelp → kind_of error ≢ kind.DisplayVersion → status ≡ 2
  pub help : kind_of error ≡ kind.DisplayHelp → status ≤ 1
  pub version : kind_of error ≡ kind.DisplayVersion → status ≤ 1

-- what a command line that isn't obeyed ends the program with: its error, unless memory ran out as it was read
pub record IsStopOfLine (error : Error) (end : Stop) : Type 0 where
  pub memory : kind_of error ≡ kind.OutOfMemory → end ≡ stop.Run fault.Memory
  pub line : kind_of error ≢ kind.OutOfMemory → end ≡ stop.CommandLine error

-- what a check ends the program with that came to a fault of the machine
abbrev pub stop_of_check : CheckFault → Stop
stop_of_check check.Memory = stop.Run fault.Memory
stop_of_check check.Write = stop.Run fault.Write

-- what a run ends the program with that began at a level and came to a fault
abbrev pub stop_of_level : ℕ → LevelFault → Stop
stop_of_level number (level.NoSuchLevel levels) = stop.NoSuchLevel number levels
stop_of_level number (level.Run found) = stop.Run found

-- the program doesn't end for a level that is asked for
abbrev pub NamesNoLevel : Stop → Type 0
NamesNoLevel end = (end ≢ stop.NoLevelThere) × ((level levels : ℕ) → end ≢ stop.NoSuchLevel level levels)

-- nor for the number of keys that are given
abbrev pub IsApart : Stop → Type 0
IsApart end = NamesNoLevel end × (end ≢ stop.TooManyKeys)

-- 2 for what is wrong with a command line, 1 for a fault
abbrev pub IsStatusOf : Stop → ℕ → Type 0
IsStatusOf (stop.CommandLine error) status = IsStatusOfLine error status
IsStatusOf (stop.NotText _) status = status ≡ 2
IsStatusOf stop.NoSuchCode status = status ≡ 2
IsStatusOf stop.NoSize status = status ≡ 2
IsStatusOf stop.NoLevel status = status ≡ 2
IsStatusOf stop.NoLimit status = status ≡ 2
IsStatusOf stop.NoFormat status = status ≡ 2
IsStatusOf stop.NoStates status = status ≡ 2
IsStatusOf stop.NoTask status = status ≡ 2
IsStatusOf stop.OneGame status = status ≡ 2
IsStatusOf stop.OneInput status = status ≡ 2
IsStatusOf stop.ReplayedLevel status = status ≡ 2
IsStatusOf stop.NoStreams status = status ≡ 2
IsStatusOf stop.Game status = status ≡ 1
IsStatusOf stop.Output status = status ≡ 1
IsStatusOf (stop.NoSuchLevel _ _) status = status ≡ 1
IsStatusOf stop.NoLevelThere status = status ≡ 1
IsStatusOf stop.TooManyKeys status = status ≡ 1
IsStatusOf stop.NotAccepted status = status ≡ 1
IsStatusOf (stop.Run _) status = status ≡ 1
