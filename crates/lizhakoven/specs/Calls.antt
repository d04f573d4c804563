-- What the calls on sessions come to: how a session is started, given keys, copied, and asked what its keys lead to.
use Rattle.std.specs.Prelude.{◌≡◌, ℕ, Bool, true, false, List, [], Option, None, Some, Result, Ok, Err, drop, length}
use Rattle.std.specs.declared.boxed.Box.{Box}
use Rattle.ps_model.specs.game.LevelRuns.{level_entry}
use Rattle.lizhakoven.specs.declared.places.Place.{Place}
use Rattle.lizhakoven.specs.declared.statuses.Status.{Status}
use Rattle.lizhakoven.specs.declared.statuses.Status.TheVariants.{Done, Refused, Memory, NoRoom, TooManyKeys, NoLevel}
use Rattle.lizhakoven.specs.declared.statuses.Status.TheVariants.{Closed, NoObject}
use Rattle.lizhakoven.specs.HeldSessions.{HasText, HeldValue, IsAt, with_keys}
use Rattle.lizhakoven.specs.OpenGames.{OpenGame}
use Rattle.lizhakoven.specs.Places.{nowhere}
use Rattle.lizhakoven.specs.Told.{IsTold}

-- starts --------------------------------------------------------------------------------------------------------------

-- a handle owns a game with the level, and the session begins there
pub record HasStarted (game : Option OpenGame) (level : ℕ) (session : Option HeldValue) : Type 0 where
  pub held : OpenGame
  pub is : game ≡ Some held
  pub entry : ℕ
  pub has : level_entry held.read.entries level ≡ Some entry
  pub begins : session ≡ Some (record { read = held.read; entry = entry; keys = [] })

-- a handle owns a game without the level
abbrev pub LacksLevel : Option OpenGame → ℕ → Type 0
LacksLevel game level = (held : OpenGame) × (game ≡ Some held) × (level_entry held.read.entries level ≡ None)

-- a start, of which the session's handle owned something before, or nothing, and owns this after it
abbrev pub IsStarted : Option OpenGame → ℕ → Option HeldValue → Option HeldValue → Status → Type 0
IsStarted game level before after Done = HasStarted game level after
IsStarted game level before after NoLevel = LacksLevel game level × (after ≡ before)
IsStarted game level before after Memory = (held : OpenGame) × (game ≡ Some held) × (after ≡ before)
IsStarted game level before after Closed = (game ≡ None) × (after ≡ before)
IsStarted game level before after Refused = ⊥
IsStarted game level before after NoRoom = ⊥
IsStarted game level before after TooManyKeys = ⊥
IsStarted game level before after NoObject = ⊥

-- the session that begins at a level of a game, or the status of a start that came to none
abbrev pub IsBegun : OpenGame → ℕ → Result HeldValue Status → Type 0
IsBegun held level (Ok session) = HasStarted (Some held) level (Some session)
IsBegun held level (Err status) = (before : Option HeldValue) → IsStarted (Some held) level before before status

-- the same of what a handle owns
abbrev pub IsStart : {A : Type 0} → Option OpenGame → ℕ → Result (Box HeldValue A) Status → Type 0
IsStart game level (Ok session) = HasStarted game level (Some session.value)
IsStart game level (Err status) = (before : Option HeldValue) → IsStarted game level before before status

-- keys ----------------------------------------------------------------------------------------------------------------

-- keys are given to a session, with this status
abbrev pub IsGiven : List ℕ → Option HeldValue → Option HeldValue → Status → Type 0
IsGiven keys before after Done = (held : HeldValue) × (before ≡ Some held) × (after ≡ Some (with_keys held keys))
IsGiven keys before after Memory = (held : HeldValue) × (before ≡ Some held) × (after ≡ Some held)
IsGiven keys before after Closed = (before ≡ None) × (after ≡ None)
IsGiven keys before after Refused = ⊥
IsGiven keys before after NoRoom = ⊥
IsGiven keys before after TooManyKeys = ⊥
IsGiven keys before after NoLevel = ⊥
IsGiven keys before after NoObject = ⊥

-- looks ---------------------------------------------------------------------------------------------------------------

-- the place where a session is is told; its cells are told, or there is no room for them
abbrev pub IsSeenIn : List ℕ → List ℕ → Option HeldValue → Place → Bool → Type 0
IsSeenIn cells_before cells_after session place is_told = (held : HeldValue) × (session ≡ Some held)
    × IsAt held cells_before cells_after (record { place = place; is_told = is_told })

-- a look at where a session is, with this status
abbrev pub IsLook : List ℕ → List ℕ → Option HeldValue → Place → Status → Type 0
IsLook cells_before cells_after session place Done = IsSeenIn cells_before cells_after session place true
IsLook cells_before cells_after session place NoRoom = IsSeenIn cells_before cells_after session place false
IsLook cells_before cells_after session place Memory =
    (held : HeldValue) × (session ≡ Some held) × (cells_after ≡ cells_before) × (place ≡ nowhere 0)
IsLook cells_before cells_after session place Closed =
    (session ≡ None) × (cells_after ≡ cells_before) × (place ≡ nowhere 0)
IsLook cells_before cells_after session place Refused = ⊥
IsLook cells_before cells_after session place TooManyKeys = ⊥
IsLook cells_before cells_after session place NoLevel = ⊥
IsLook cells_before cells_after session place NoObject = ⊥

-- texts ---------------------------------------------------------------------------------------------------------------

-- what a session has written is told from a byte on, or there is no room for it; `count` bytes are left from there
pub record HasTold (from : ℕ) (before after : List ℕ) (session : Option HeldValue) (count : ℕ) (is_told : Bool) :
    Type 0 where
  pub held : HeldValue
  pub is : session ≡ Some held
  pub wrote : List ℕ
  pub text : HasText held wrote
  pub counted : count ≡ length (drop from wrote)
  pub told : IsTold (drop from wrote) before after is_told

-- what a session has written is asked for from a byte on, with this status
abbrev pub IsText : ℕ → List ℕ → List ℕ → Option HeldValue → ℕ → Status → Type 0
IsText from before after session count Done = HasTold from before after session count true
IsText from before after session count NoRoom = HasTold from before after session count false
IsText from before after session count Memory =
    (held : HeldValue) × (session ≡ Some held) × (after ≡ before) × (count ≡ 0)
IsText from before after session count Closed = (session ≡ None) × (after ≡ before) × (count ≡ 0)
IsText from before after session count Refused = ⊥
IsText from before after session count TooManyKeys = ⊥
IsText from before after session count NoLevel = ⊥
IsText from before after session count NoObject = ⊥

-- copies --------------------------------------------------------------------------------------------------------------

-- a copy of a session, in place of what another handle owned, with this status
abbrev pub IsCopied : Option HeldValue → Option HeldValue → Option HeldValue → Status → Type 0
IsCopied session before after Done = (held : HeldValue) × (session ≡ Some held) × (after ≡ Some held)
IsCopied session before after Memory = (held : HeldValue) × (session ≡ Some held) × (after ≡ before)
IsCopied session before after Closed = (session ≡ None) × (after ≡ before)
IsCopied session before after Refused = ⊥
IsCopied session before after NoRoom = ⊥
IsCopied session before after TooManyKeys = ⊥
IsCopied session before after NoLevel = ⊥
IsCopied session before after NoObject = ⊥

-- the copy that was made, or the status of one that came to none
abbrev pub IsCopy : {A : Type 0} → Option HeldValue → Result (Box HeldValue A) Status → Type 0
IsCopy session (Ok copy) = session ≡ Some copy.value
IsCopy session (Err status) = (before : Option HeldValue) → IsCopied session before before status
