-- What a run has written when it has read so far: the front of its output. It grows with each key until the game ends.
-- The whole output is the front of all keys, with one more line where the keys end first.
use Rattle.std.specs.Prelude.{ℕ, ◌≤◌, Some, None, List, [], ◌∷◌, ◌++◌, length, ◌≡◌, ◌≢◌}
use Rattle.ps_model.specs.declared.play.Ending.{Ending}
use Rattle.ps_model.specs.declared.play.Ending.TheVariants.{EndOfKeys}
use Rattle.ps_model.specs.declared.play.Key.{Key}
use Rattle.ps_model.specs.session.Keys.{keys_of}
use Rattle.ps_model.specs.session.HeldKeys.{held}
use Rattle.ps_model.specs.board.Turns.{Script}
use Rattle.ps_model.specs.session.Sessions.{Session, Ended, Step, quietly}
use Rattle.ps_model.specs.session.KeySteps.{key_step}
use Rattle.ps_model.specs.game.Headline.{IsFront}
use Rattle.ps_model.specs.game.Outputs.{output, opening_step, ending_of, end_of_keys_line, texts_of_keys, front}

-- the session after keys
abbrev pub session_after : Script → Session → List Key → Session
session_after script session [] = session
session_after script session (key ∷ keys) = let step : Step = key_step script session key in
    session_after script step.session keys

-- the session after the bytes
abbrev pub session_of : Script → List ℕ → Session
session_of script bytes = session_after script (opening_step script).session (keys_of bytes)

-- the front of all keys of the bytes
unfoldable pub whole_front : Script → List ℕ → List ℕ
whole_front script bytes = front script bytes (length (keys_of bytes))

-- laws ----------------------------------------------------------------------------------------------------------------

-- the front of more keys goes on from the front of fewer
abbrev pub FrontGrows : Type 0
FrontGrows =
    (script : Script) (bytes : List ℕ) (few many : ℕ) → few ≤ many →
    IsFront (front script bytes few) (front script bytes many)

-- where the run has ended after the keys, the front of all keys is the output, and that ending is its ending
abbrev pub OutputOfEnded : Type 0
OutputOfEnded =
    (script : Script) (bytes : List ℕ) (ending : Ending) → ending_of (session_of script bytes) ≡ Some ending →
    output script bytes ≡ record { written = whole_front script bytes; ending = ending }

-- and where it hasn't, the line that says so comes after it
abbrev pub OutputOfUnended : Type 0
OutputOfUnended = (script : Script) (bytes : List ℕ) → ending_of (session_of script bytes) ≡ None →
    output script bytes ≡ record { written = whole_front script bytes ++ end_of_keys_line; ending = EndOfKeys }

-- no session ends for want of keys: only a run does
abbrev pub EndsOtherwise : Type 0
EndsOtherwise = (script : Script) (bytes : List ℕ) → ending_of (session_of script bytes) ≢ Some EndOfKeys

-- so the ending tells what is after the front: a run for which the keys ended says so in one more line; any other run
-- writes no more than the texts of its keys
abbrev pub WrittenByEnding : Type 0
WrittenByEnding = (script : Script) (bytes : List ℕ) →
    ((output script bytes).ending ≡ EndOfKeys →
    (output script bytes).written ≡ whole_front script bytes ++ end_of_keys_line)
    × ((output script bytes).ending ≢ EndOfKeys → (output script bytes).written ≡ whole_front script bytes)

-- each front is a front of the output
abbrev pub FrontOfOutput : Type 0
FrontOfOutput =
    (script : Script) (bytes : List ℕ) (count : ℕ) → IsFront (front script bytes count) (output script bytes).written

-- after the end a key changes nothing, and writes nothing
abbrev pub EndIsQuiet : Type 0
EndIsQuiet =
    (script : Script) (ending : Ending) (key : Key) → key_step script (Ended ending) key ≡ quietly (Ended ending)

-- nor do more keys
abbrev pub EndStays : Type 0
EndStays = (script : Script) (ending : Ending) (keys : List Key) →
    (session_after script (Ended ending) keys ≡ Ended ending) × (texts_of_keys script (Ended ending) keys ≡ [])

-- bytes that come in pieces: the front of two pieces is that of the first, and then further texts: those of the keys
-- that the second brings after what is held of the first; and so is the session
abbrev pub FrontInPieces : Type 0
FrontInPieces = (script : Script) (first second : List ℕ) →
    (whole_front script (first ++ second) ≡ whole_front script first ++ texts_of_keys script (session_of script first)
    (keys_of (held first ++ second)))
    × (session_of script (first ++ second) ≡ session_after script (session_of script first)
    (keys_of (held first ++ second)))

-- what is written for the bytes so far is a front of the output, whatever bytes come after them
abbrev pub FrontOfMore : Type 0
FrontOfMore =
    (script : Script) (first second : List ℕ) →
    IsFront (whole_front script first) (output script (first ++ second)).written

-- and once the run has ended it is the output
abbrev pub OutputOnceEnded : Type 0
OutputOnceEnded =
    (script : Script) (first second : List ℕ) (ending : Ending) → ending_of (session_of script first) ≡ Some ending →
    output script (first ++ second) ≡ record { written = whole_front script first; ending = ending }
