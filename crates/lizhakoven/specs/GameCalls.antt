-- What the calls on games come to: how a game is opened, and asked for the name of an object.
use Rattle.std.specs.Prelude.{◌≡◌, ℕ, ◌<◌, ◌≤◌, Bool, true, false, List, Option, None, Some, Result, Ok, Err, length}
use Rattle.std.specs.declared.boxed.Box.{Box}
use Rattle.ps_model.specs.declared.faults.Fault.{Fault}
use Rattle.ps_model.specs.names.Names.{object_count}
use Rattle.ps_model.specs.game.Games.{Game, faults, game}
use Rattle.ps_model.specs.text.Faults.{first_fault}
use Rattle.lizhakoven.specs.declared.faults.TextFault.{TextFault}
use Rattle.lizhakoven.specs.declared.statuses.Status.{Status}
use Rattle.lizhakoven.specs.declared.statuses.Status.TheVariants.{Done, Refused, Memory, NoRoom, TooManyKeys, NoLevel}
use Rattle.lizhakoven.specs.declared.statuses.Status.TheVariants.{Closed, NoObject}
use Rattle.lizhakoven.specs.OpenGames.{OpenGame, object_name}
use Rattle.lizhakoven.specs.Told.{IsTold}
use Rattle.lizhakoven.specs.ToldFaults.{no_fault, told_fault}

-- openings ------------------------------------------------------------------------------------------------------------

-- the text has a game, and that is open
abbrev pub HasOpened : List ℕ → Option OpenGame → Type 0
HasOpened text opened =
    (read : Game) × (game text ≡ Some read) × (opened ≡ Some (record { text = text; read = read }))

-- an opening, of which the handle owned something before, or nothing, and owns this after it
abbrev pub IsOpened : List ℕ → Option OpenGame → Option OpenGame → TextFault → Status → Type 0
IsOpened text before after fault Done = HasOpened text after × (fault ≡ no_fault)
IsOpened text before after fault Refused = (first : Fault) × (first_fault (faults text) ≡ Some first) ×
    (fault ≡ told_fault first) × (after ≡ before)
IsOpened text before after fault Memory = (fault ≡ no_fault) × (after ≡ before)
IsOpened text before after fault NoRoom = ⊥
IsOpened text before after fault TooManyKeys = ⊥
IsOpened text before after fault NoLevel = ⊥
IsOpened text before after fault Closed = ⊥
IsOpened text before after fault NoObject = ⊥

-- the game that was opened, or the status of an opening that came to none
abbrev pub IsOpening : {A : Type 0} → List ℕ → TextFault → Result (Box OpenGame A) Status → Type 0
IsOpening text fault (Ok opened) = HasOpened text (Some opened.value) × (fault ≡ no_fault)
IsOpening text fault (Err status) =
    (before : Option OpenGame) → IsOpened text before before fault status

-- names ---------------------------------------------------------------------------------------------------------------

-- the name of an object is told, or there is no room for it; it has `count` bytes
pub record HasName (object : ℕ) (before after : List ℕ) (held : OpenGame) (count : ℕ) (is_told : Bool) : Type 0 where
  pub there : object < object_count held.read.names
  pub counted : count ≡ length (object_name held object)
  pub told : IsTold (object_name held object) before after is_told

-- nothing is told
abbrev pub IsUntold : List ℕ → List ℕ → ℕ → Type 0
IsUntold before after count = (after ≡ before) × (count ≡ 0)

-- an open game is asked for the name of an object, with this status
abbrev pub IsNamedBy : OpenGame → ℕ → List ℕ → List ℕ → ℕ → Status → Type 0
IsNamedBy held object before after count Done = HasName object before after held count true
IsNamedBy held object before after count NoRoom = HasName object before after held count false
IsNamedBy held object before after count NoObject =
    (object_count held.read.names ≤ object) × IsUntold before after count
IsNamedBy held object before after count Memory = IsUntold before after count
IsNamedBy held object before after count Refused = ⊥
IsNamedBy held object before after count TooManyKeys = ⊥
IsNamedBy held object before after count NoLevel = ⊥
IsNamedBy held object before after count Closed = ⊥

-- what a handle owns is asked so
abbrev pub IsNamed : Option OpenGame → ℕ → List ℕ → List ℕ → ℕ → Status → Type 0
IsNamed (Some held) object before after count status = IsNamedBy held object before after count status
IsNamed None object before after count status = (status ≡ Closed) × IsUntold before after count
