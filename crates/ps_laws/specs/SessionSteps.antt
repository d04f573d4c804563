-- Steps of a session one by one. Turns, openings and fronts are opened by these laws and by nothing else. So a proof
-- about a session speaks of them by their names.
use Rattle.std.specs.Prelude.{◌≡◌, ℕ, suc, Option, Some, None, List, [], ◌∷◌, ◌++◌, codes}
use Rattle.ps_model.specs.declared.play.Input.{Input}
use Rattle.ps_model.specs.declared.play.Key.{Key}
use Rattle.ps_model.specs.declared.limits.TheConstants.{AGAIN_LIMIT}
use Rattle.ps_model.specs.board.Grid.{Grid}
use Rattle.ps_model.specs.board.Turns.{Script, Done, Outcome, Finished, played, outcome_of, turn}
use Rattle.ps_model.specs.session.Frames.{written_line}
use Rattle.ps_model.specs.declared.held.Held.{Held}
use Rattle.ps_model.specs.session.HeldKeys.{held, bytes_of, key_behind}
use Rattle.ps_model.specs.session.Keys.{keys_of}
use Rattle.ps_model.specs.session.Sessions.{Play, Playing, Step, after, seen, shown}
use Rattle.ps_model.specs.session.StartSteps.{start_turn_by, start_turns, all_start_turns, enter}
use Rattle.ps_model.specs.session.KeySteps.{key_turn_by, key_turns, all_key_turns, with_board_in_history_if, key_done}
use Rattle.ps_model.specs.session.KeySteps.{turn_taken}
use Rattle.ps_model.specs.session.KeySteps.{undone, key_step}
use Rattle.ps_model.specs.game.Outputs.{opening_step, texts_of_keys}
use Rattle.ps_laws.specs.Fronts.{session_of, whole_front}

-- turns ---------------------------------------------------------------------------------------------------------------

-- a turn has the outcome of the state that its programs and its movement lead to
abbrev pub TurnsAreOutcomes : Type 0
TurnsAreOutcomes =
    (script : Script) (input : Option Input) (g : Grid) →
    turn script input g ≡ outcome_of script input g (played script input g)

-- the again turns of a key are as many as the limit at most
abbrev pub KeyTurnsAreLimited : Type 0
KeyTurnsAreLimited = (script : Script) (play : Play) → all_key_turns script play ≡ key_turns script AGAIN_LIMIT play

-- so are those of a start
abbrev pub StartTurnsAreLimited : Type 0
StartTurnsAreLimited =
    (script : Script) (play : Play) → all_start_turns script play ≡ start_turns script AGAIN_LIMIT play

-- an again turn of a key goes by its outcome
abbrev pub KeyTurnsGoByOutcome : Type 0
KeyTurnsGoByOutcome =
    (script : Script) (left : ℕ) (play : Play) (outcome : Outcome) → turn script None play.board ≡ outcome →
    key_turns script (suc left) play ≡ key_turn_by script play left (key_turns script left) outcome

-- so does one of a start
abbrev pub StartTurnsGoByOutcome : Type 0
StartTurnsGoByOutcome =
    (script : Script) (left : ℕ) (play : Play) (outcome : Outcome) → turn script None play.board ≡ outcome →
    start_turns script (suc left) play ≡ start_turn_by script play left (start_turns script left) outcome

-- what a done turn of a key brings is said of the level whose history is already as it will be
abbrev pub DoneWithHistory : Type 0
DoneWithHistory =
    (script : Script) (play kept : Play) (done : Done) → with_board_in_history_if done.changed play ≡ kept →
    turn_taken script play (Finished done) ≡ key_done script kept done

-- texts ---------------------------------------------------------------------------------------------------------------

-- a text after a text is the two joined
abbrev pub TextsJoin : Type 0
TextsJoin = (first second : List ℕ) (step : Step) → after first (after second step) ≡ after (first ++ second) step

-- an empty text adds nothing
abbrev pub EmptyTextAddsNothing : Type 0
EmptyTextAddsNothing = (step : Step) → after [] step ≡ step

-- undo ----------------------------------------------------------------------------------------------------------------

-- undo goes back to the latest board, with the room that is seen there, and leaves the history those before it
abbrev pub UndoTakesLatest : Type 0
UndoTakesLatest =
    (script : Script) (play : Play) (earlier : List Grid) (latest : Grid) → play.history ≡ earlier ++ latest ∷ [] →
    let back : Play = seen script (record {
      entry = play.entry;
      board = latest;
      history = earlier;
      restart_board =
          play.restart_board;
      room = play.room;
    }) in
    undone script play ≡ record { session = Playing back; text = shown script back }

-- without a history it writes the frame alone
abbrev pub UndoOfNothing : Type 0
UndoOfNothing = (script : Script) (play : Play) → play.history ≡ [] →
    undone script play ≡ record { session = Playing play; text = shown script play }

-- runs ----------------------------------------------------------------------------------------------------------------

-- the opening is the title, and what the entry brings at which the game begins
abbrev pub OpeningsAreEntered : Type 0
OpeningsAreEntered =
    (script : Script) →
    opening_step script ≡ after (written_line (codes "= ") script.title) (enter script script.first_entry)

-- the front of all keys is the text of the opening, and those of the keys
abbrev pub FrontsAreTexts : Type 0
FrontsAreTexts = (script : Script) (bytes : List ℕ) →
    whole_front script bytes ≡ (opening_step script).text ++ texts_of_keys script (opening_step script).session
    (keys_of bytes)

-- a byte that brings no key after what is held writes nothing, and leaves the session
abbrev pub SilentBytesWriteNothing : Type 0
SilentBytesWriteNothing =
    (script : Script) (read : List ℕ) (byte : ℕ) (kept : Held) → bytes_of kept ≡ held read →
    key_behind kept byte ≡ None →
    (whole_front script (read ++ byte ∷ []) ≡ whole_front script read) ×
    (session_of script (read ++ byte ∷ []) ≡ session_of script read)

-- a byte that brings a key does what the key does
abbrev pub KeysWriteTheirTexts : Type 0
KeysWriteTheirTexts =
    (script : Script) (read : List ℕ) (byte : ℕ) (kept : Held) (key : Key) → bytes_of kept ≡ held read →
    key_behind kept byte ≡ Some key →
    (whole_front script (read ++ byte ∷ []) ≡ whole_front script read ++
    (key_step script (session_of script read) key).text)
    × (session_of script (read ++ byte ∷ []) ≡ (key_step script (session_of script read) key).session)
