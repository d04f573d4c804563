-- What a check may find of a text: that it is a game, with its size; its first fault; or nothing, out of memory.
use Rattle.std.specs.Prelude.{◌≡◌, ℕ, List, Some}
use Rattle.ps_model.specs.declared.faults.Fault.{Fault}
use Rattle.ps_model.specs.text.Faults.{first_fault}
use Rattle.ps_model.specs.game.Games.{Game, faults, game}
use Rattle.lizhakoven.specs.declared.checking.Finding.{Finding}
use Rattle.lizhakoven.specs.declared.statuses.Status.{Status}
use Rattle.lizhakoven.specs.declared.statuses.Status.TheVariants.{Done, Refused, Memory, NoRoom, TooManyKeys, NoLevel}
use Rattle.lizhakoven.specs.declared.statuses.Status.TheVariants.{Closed, NoObject}
use Rattle.lizhakoven.specs.ToldFaults.{no_fault, told_fault}
use Rattle.lizhakoven.specs.ToldSizes.{no_size, told_size}

-- that is found of a text, with this status
abbrev pub IsFound : List ℕ → Finding → Status → Type 0
IsFound text finding Done = (read : Game) × (game text ≡ Some read) ×
    (finding ≡ record { size = told_size read; fault = no_fault })
IsFound text finding Refused = (fault : Fault) × (first_fault (faults text) ≡ Some fault) ×
    (finding ≡ record { size = no_size; fault = told_fault fault })
IsFound text finding Memory = finding ≡ record { size = no_size; fault = no_fault }
IsFound text finding NoRoom = ⊥
IsFound text finding TooManyKeys = ⊥
IsFound text finding NoLevel = ⊥
IsFound text finding Closed = ⊥
IsFound text finding NoObject = ⊥
