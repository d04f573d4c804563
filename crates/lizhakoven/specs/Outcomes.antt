-- What a run tells C.
use Rattle.std.specs.Prelude.{◌≡◌, ℕ, ◌≤◌, List, length, take, drop}
use Rattle.ps_model.specs.declared.play.Ending.TheVariants.{TheEnd, Quit, EndOfKeys}
use Rattle.lizhakoven.specs.declared.faults.TextFault.{TextFault}
use Rattle.lizhakoven.specs.declared.playing.Played.{Played}
use Rattle.lizhakoven.specs.declared.playing.Played.TheVariants.{Ended, Refused, Memory, NoRoom, TooManyKeys}
use Rattle.lizhakoven.specs.declared.running.Outcome.{Outcome}
use Rattle.lizhakoven.specs.declared.statuses.Status.{Status}
use Rattle.lizhakoven.specs.declared.statuses.Status.TheVariants as status
use Rattle.lizhakoven.specs.Runs.{IsPlayed}
use Rattle.lizhakoven.specs.Statuses.{number_of_status}
use Rattle.lizhakoven.specs.ToldFaults.{no_fault, told_fault}

-- the status of a run that came out so
abbrev pub status_of : Played → Status
status_of (Ended ending) = status.Done
status_of (Refused first) = status.Refused
status_of Memory = status.Memory
status_of NoRoom = status.NoRoom
status_of TooManyKeys = status.TooManyKeys

-- the number of its ending, or 0
abbrev pub ending_number : Played → ℕ
ending_number (Ended TheEnd) = 1
ending_number (Ended Quit) = 2
ending_number (Ended EndOfKeys) = 3
ending_number (Refused first) = 0
ending_number Memory = 0
ending_number NoRoom = 0
ending_number TooManyKeys = 0

-- the fault that it tells, or none
abbrev pub fault_told : Played → TextFault
fault_told (Ended ending) = no_fault
fault_told (Refused first) = told_fault first
fault_told Memory = no_fault
fault_told NoRoom = no_fault
fault_told TooManyKeys = no_fault

-- a run of the text on the keys may tell that outcome and that number of a status. The memory for its output holds these
-- bytes before it and those after it
pub record HasRun (text keys before after : List ℕ) (outcome : Outcome) (number : ℕ) : Type 0 where
  pub played : Played
  pub status_is : number ≡ number_of_status (status_of played)
  pub ending_is : outcome.ending ≡ ending_number played
  pub fault_is : outcome.fault ≡ fault_told played
  -- as many bytes are written as it tells, and the rest of the memory is as it was
  pub within : outcome.length ≤ length before
  pub room : length after ≡ length before
  pub rest : drop outcome.length after ≡ drop outcome.length before
  pub is_played : IsPlayed text keys (length before) (take outcome.length after) played
