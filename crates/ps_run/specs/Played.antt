-- How far a run has come with the bytes that it has read.
use Rattle.std.specs.Prelude.{◌≡◌, ℕ, ◌+◌, ◌<◌, ◌≤◌, false, ⊤, None, List, [], ◌∷◌, ◌++◌, drop, length, take}
use Rattle.ps_model.specs.declared.held.Held.{Held}
use Rattle.ps_model.specs.declared.play.Key.{Key}
use Rattle.ps_model.specs.board.Turns.{Script}
use Rattle.ps_model.specs.session.HeldKeys as keys
use Rattle.ps_model.specs.session.IgnoredKeys.{is_ignored}
use Rattle.ps_model.specs.session.Keys.{keys_of}
use Rattle.ps_model.specs.session.Sessions.{Session}
use Rattle.ps_model.specs.game.Headline.{IsFront, IsCutOff}
use Rattle.ps_model.specs.game.Outputs.{ending_of}
use Rattle.ps_model.specs.game.Tellings.{WriterState}
use Rattle.ps_laws.specs.Fronts.{session_of, whole_front}
use Rattle.ps_devices.specs.Devices.{Grows}
use Rattle.ps_run.specs.declared.faults.PieceFault.{PieceFault}
use Rattle.ps_run.specs.declared.faults.PieceFault.TheVariants.{Memory, Write}

-- how a writer counts the calls by which it took a text, which is one of several or more of them, so many: it took back
-- no count; there was a call, if the text has a byte; and there were no more calls than texts, but for one more for
-- each that took less than it was handed
pub record HasCounted (before now : WriterState) (text : List ℕ) (count : ℕ) : Type 0 where
  pub more : before.calls ≤ now.calls
  pub shorts : before.short_calls ≤ now.short_calls
  pub called : 1 ≤ length text → before.calls < now.calls
  pub few : now.calls + before.short_calls ≤ before.calls + (count + now.short_calls)

-- a writer has taken the text of so many, by no more calls than it has bytes, each of which was handed some
abbrev pub HasTaken : WriterState → WriterState → List ℕ → ℕ → Type 0
HasTaken before now text count =
    Grows before.contents now.contents text × (now.calls ≤ before.calls + length text) ×
    (now.empty_calls ≡ before.empty_calls) × HasCounted before now text count

-- a writer has taken the text, and then a call failed
abbrev pub HasTakenAndFailed : WriterState → WriterState → List ℕ → ℕ → Type 0
HasTakenAndFailed before now text count =
    Grows before.contents now.contents text × (now.calls ≤ before.calls + (length text + 1)) ×
    (now.empty_calls ≡ before.empty_calls) × HasCounted before now text count

-- the keys of these bytes are played: the session is theirs, what they leave of an arrow is held, and the writer, which
-- was well before, has taken the front that is theirs
pub record HavePlayed (script : Script) (before now : WriterState) (current : Session) (kept : Held) (read : List ℕ) :
    Type 0 where
  pub was_well : before.has_failed ≡ false
  pub session : current ≡ session_of script read
  pub held : keys.bytes_of kept ≡ keys.held read
  pub wrote : HasTaken before now (whole_front script read) (length (keys_of read) + 1)

-- texts that are gathered ---------------------------------------------------------------------------------------------

-- how many calls hand on what is gathered: one, if there is something
abbrev pub texts_in : List ℕ → ℕ
texts_in [] = 0
texts_in (byte ∷ bytes) = 1

-- the keys of these bytes are played, of which the first ones came before the piece that is played: the session is
-- theirs, and what they leave of an arrow is held. The writer, which was well before, has taken the front that is
-- theirs, but for what is gathered; at least it has taken that of the first ones
pub record HaveGathered (script : Script) (before now : WriterState) (current : Session) (kept : Held)
    (gathered first read : List ℕ) : Type 0 where
  pub was_well : before.has_failed ≡ false
  pub session : current ≡ session_of script read
  pub held : keys.bytes_of kept ≡ keys.held read
  pub taken : List ℕ
  pub count : ℕ
  pub wrote : HasTaken before now taken count
  pub rest : whole_front script read ≡ taken ++ gathered
  pub few : count + texts_in gathered ≤ length (keys_of read) + 1
  pub whole_before : IsFront (whole_front script first) taken

-- a text comes behind others that are gathered: some of all this is handed on, and the rest stays
pub record IsGathered (before now : WriterState) (gathered left text : List ℕ) : Type 0 where
  pub handed : List ℕ
  pub count : ℕ
  pub wrote : HasTaken before now handed count
  pub rest : gathered ++ text ≡ handed ++ left
  pub few : count + texts_in left ≤ texts_in gathered + 1

-- a writer has taken some of what is gathered and of a text behind it, but not all, and then a call failed
pub record IsCutOffBehind (before now : WriterState) (gathered text : List ℕ) : Type 0 where
  pub taken : List ℕ
  pub cut_off : IsCutOff taken (gathered ++ text)
  pub wrote : HasTakenAndFailed before now taken (texts_in gathered + 1)

-- a key's text was to come behind what is gathered, and didn't: memory was refused before it was whole, and what is
-- gathered is handed on; or the writer failed
abbrev pub StopsAtKey : PieceFault → WriterState → WriterState → List ℕ → List ℕ → Type 0
StopsAtKey Memory before now gathered text = HasTaken before now gathered (texts_in gathered)
StopsAtKey Write before now gathered text = IsCutOffBehind before now gathered text

-- pieces --------------------------------------------------------------------------------------------------------------

-- the first of these keys, if there is one, isn't ignored in the session
abbrev pub HeedsFirst : Script → Session → List Key → Type 0
HeedsFirst script session [] = ⊤
HeedsFirst script session (key ∷ keys) = is_ignored script.options session key ≡ false

-- the first of the keys of all bytes that the first ones don't bring, if there is one, isn't ignored after these
abbrev pub HeedsNext : Script → List ℕ → List ℕ → Type 0
HeedsNext script first all = HeedsFirst script (session_of script first) (drop (length (keys_of first)) (keys_of all))

-- memory was refused at a byte of a piece that brings a key which isn't ignored: the texts of the keys before it are
-- written, and nothing else; the game went on behind them
pub record WantsMemory (script : Script) (before now : WriterState) (read piece : List ℕ) : Type 0 where
  pub was_well : before.has_failed ≡ false
  pub count : ℕ
  pub wrote : HasTaken before now (whole_front script (read ++ take count piece))
      (length (keys_of (read ++ take count piece)) + 1)
  pub goes_on : ending_of (session_of script (read ++ take count piece)) ≡ None
  pub wanting : length (keys_of (read ++ take count piece)) < length (keys_of (read ++ piece))
  pub heeded : HeedsNext script (read ++ take count piece) (read ++ piece)

-- the writer failed at a text of a piece: what it took has the texts of the keys before the piece, and is cut off from
-- those of all its keys
pub record CannotWrite (script : Script) (before now : WriterState) (read piece : List ℕ) : Type 0 where
  pub was_well : before.has_failed ≡ false
  pub taken : List ℕ
  pub wrote : HasTakenAndFailed before now taken (length (keys_of (read ++ piece)) + 1)
  pub whole_before : IsFront (whole_front script read) taken
  pub cut_off : IsCutOff taken (whole_front script (read ++ piece))

-- a piece stops so
abbrev pub StopsAs : PieceFault → Script → WriterState → WriterState → List ℕ → List ℕ → Type 0
StopsAs Memory script before now read piece = WantsMemory script before now read piece
StopsAs Write script before now read piece = CannotWrite script before now read piece

-- a writer has taken some of a text, but not all, and then a call failed
pub record IsCutOffAt (before now : WriterState) (text : List ℕ) : Type 0 where
  pub taken : List ℕ
  pub cut_off : IsCutOff taken text
  pub wrote : HasTakenAndFailed before now taken 1

-- a text was to be written, and wasn't: memory was refused before it was whole, and nothing is written; or the writer
-- failed, and took some of it, but not all
abbrev pub StopsAtText : PieceFault → WriterState → WriterState → List ℕ → Type 0
StopsAtText Memory before now text = (now.contents ≡ before.contents) × (now.calls ≡ before.calls) ×
    (now.empty_calls ≡ before.empty_calls) × (now.short_calls ≡ before.short_calls)
StopsAtText Write before now text = IsCutOffAt before now text
