-- The numbers by which C knows what a call came to.
use Rattle.std.specs.Prelude.{ℕ, Bool, true, false}
use Rattle.lizhakoven.specs.declared.statuses.Status.{Status}
use Rattle.lizhakoven.specs.declared.statuses.Status.TheVariants.{Done, Refused, Memory, NoRoom, TooManyKeys, NoLevel}
use Rattle.lizhakoven.specs.declared.statuses.Status.TheVariants.{Closed, NoObject}

-- the number of a status
abbrev pub number_of_status : Status → ℕ
number_of_status Done = 0
number_of_status Refused = 1
number_of_status Memory = 2
number_of_status NoRoom = 3
number_of_status TooManyKeys = 4
number_of_status NoLevel = 5
number_of_status Closed = 6
number_of_status NoObject = 7

-- the status of a call, by whether there was room for what it tells
abbrev pub status_told : Bool → Status
status_told true = Done
status_told false = NoRoom
