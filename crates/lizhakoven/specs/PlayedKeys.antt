-- The keys of bytes that are played one after the other.
use Rattle.std.specs.Prelude.{◌≡◌, ◌≢◌, ◌<◌, ◌≤◌, ⊤, ℕ, Bool, true, false, List, Option, Some, None, drop, get_or}
use Rattle.std.specs.Prelude.{length, take}
use Rattle.ps_laws.specs.Fronts.{session_of, whole_front}
use Rattle.ps_model.specs.declared.held.Held.{Held}
use Rattle.ps_model.specs.board.Turns.{Script, script_at}
use Rattle.ps_model.specs.game.Games.{Game, game}
use Rattle.ps_model.specs.names.Names.{Names}
use Rattle.ps_model.specs.session.HeldKeys as keys
use Rattle.ps_model.specs.session.Sessions.{Session}
use Rattle.ps_run.specs.SizedPlays.{rested_in}
use Rattle.ps_session.specs.RestedSessions.{without_history}
use Rattle.lizhakoven.specs.declared.played_keys.PlayedKeys.{PlayedKeys}

-- the keys of bytes are played: the session is theirs, and what they leave of an arrow is held
pub record HasRead (script : Script) (session : Session) (kept : Held) (read : List ℕ) : Type 0 where
  pub session_is : session ≡ session_of script read
  pub held : keys.bytes_of kept ≡ keys.held read

-- the same, and the output has the opening and their texts
pub record HasWritten (script : Script) (session : Session) (kept : Held) (read output : List ℕ) : Type 0 where
  pub keyed : HasRead script session kept read
  pub wrote : output ≡ whole_front script read

-- sessions that lack what undo goes back to ---------------------------------------------------------------------------

-- the keys of bytes are played, but the session may lack boards that undo goes back to
pub record HasReadBarely (script : Script) (session : Session) (kept : Held) (read : List ℕ) : Type 0 where
  pub session_is : without_history session ≡ without_history (session_of script read)
  pub held : keys.bytes_of kept ≡ keys.held read

-- the keys of bytes are played by a session that has all boards that undo goes back to, or that may lack some
abbrev pub HasPlayed : Bool → Script → Session → Held → List ℕ → Type 0
HasPlayed true script session kept read = HasRead script session kept read
HasPlayed false script session kept read = HasReadBarely script session kept read

-- none of these bytes is the key that takes back
abbrev pub TakesNothingBack : List ℕ → Type 0
TakesNothingBack bytes = (i : ℕ) → i < length bytes → get_or bytes i 0 ≢ 122

-- a session plays more bytes where it has all boards that undo goes back to, or where none of them takes back
abbrev pub CanPlay : Bool → List ℕ → Type 0
CanPlay true bytes = ⊤
CanPlay false bytes = TakesNothingBack bytes

-- the same of one byte
abbrev pub CanPlayByte : Bool → ℕ → Type 0
CanPlayByte true byte = ⊤
CanPlayByte false byte = byte ≢ 122

-- what is kept of them ------------------------------------------------------------------------------------------------

-- what is kept of the first bytes of some is of a game with these names
pub record IsOfKeys (names : Names) (bytes : List ℕ) (played : PlayedKeys) : Type 0 where
  pub named : (rested_in played.rested).names ≡ names
  pub within : played.count ≤ length bytes

abbrev pub IsOfKeysIf : Names → List ℕ → Option PlayedKeys → Type 0
IsOfKeysIf names bytes None = ⊤
IsOfKeysIf names bytes (Some played) = IsOfKeys names bytes played

-- it is what they lead to
abbrev pub AreLedTo : Script → List ℕ → PlayedKeys → Type 0
AreLedTo script bytes played =
    HasPlayed played.is_whole script (rested_in played.rested).session played.keys (take played.count bytes)

abbrev pub AreLedToIf : Script → List ℕ → Option PlayedKeys → Type 0
AreLedToIf script bytes None = ⊤
AreLedToIf script bytes (Some played) = AreLedTo script bytes played

-- so it is in a game that is begun at an entry, if that is the game of a text
abbrev pub ArePlayed : Game → ℕ → List ℕ → Option PlayedKeys → Type 0
ArePlayed read entry bytes played =
    (text : List ℕ) → game text ≡ Some read → AreLedToIf (script_at read entry) bytes played

-- more keys can be played from there
abbrev pub CanGoOn : List ℕ → Option PlayedKeys → Type 0
CanGoOn bytes None = ⊤
CanGoOn bytes (Some played) = CanPlay played.is_whole (drop played.count bytes)
