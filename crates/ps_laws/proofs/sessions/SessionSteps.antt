-- Steps of a session one by one.
use Rattle.std.proofs.Common.{◌≡◌, ℕ, ◌+◌, ◌-◌, Option, Some, None, List, [], ◌∷◌, ◌++◌, length, take, slice_get, refl}
use Rattle.std.proofs.Common.{sym, ◌∙◌, ap, ap₂, arith, append_assoc}
use Rattle.std.specs.Prelude.{option_to_list}
use Rattle.std.proofs.Math.Seq.{take-append_seam}
use Rattle.std.proofs.lemmas.List.{append-nil, length-append}
use Rattle.ps_model.specs.declared.play.Key.{Key}
use Rattle.ps_model.specs.declared.held.Held.{Held}
use Rattle.ps_model.specs.board.Grid.{Grid}
use Rattle.ps_model.specs.board.Turns.{Script, turn}
use Rattle.ps_model.specs.session.Keys.{keys_of}
use Rattle.ps_model.specs.session.HeldKeys.{held, bytes_of, key_behind}
use Rattle.ps_model.specs.session.Sessions.{Play, Session, Playing, Step, seen, shown}
use Rattle.ps_model.specs.session.StartSteps.{start_turn_by, start_turns, all_start_turns}
use Rattle.ps_model.specs.session.KeySteps.{key_turn_by, key_turns, all_key_turns, key_done, back_at, key_step}
use Rattle.ps_model.specs.game.Outputs.{opening_step, texts_of_keys}
use Rattle.ps_laws.specs.Fronts.{session_after, session_of}
use Rattle.ps_laws.specs.SessionSteps.{TurnsAreOutcomes, KeyTurnsAreLimited, StartTurnsAreLimited, KeyTurnsGoByOutcome}
use Rattle.ps_laws.specs.SessionSteps.{StartTurnsGoByOutcome, DoneWithHistory, TextsJoin, EmptyTextAddsNothing}
use Rattle.ps_laws.specs.SessionSteps.{UndoTakesLatest, UndoOfNothing, OpeningsAreEntered, FrontsAreTexts}
use Rattle.ps_laws.specs.SessionSteps.{SilentBytesWriteNothing, KeysWriteTheirTexts}
use Rattle.ps_laws.proofs.keys.Fronts.{session_after-append, texts_of_keys-append, whole_front-is}
use Rattle.ps_laws.proofs.keys.KeysInPieces.{read_byte_by_byte}

pub turns_are_outcomes : TurnsAreOutcomes
unfolding turn
turns_are_outcomes script input g = refl

pub key_turns-limited : KeyTurnsAreLimited
unfolding all_key_turns
key_turns-limited script play = refl

pub start_turns-limited : StartTurnsAreLimited
unfolding all_start_turns
start_turns-limited script play = refl

pub key_turns-by_outcome : KeyTurnsGoByOutcome
key_turns-by_outcome script left play outcome e = ap (key_turn_by script play left (key_turns script left)) e

pub start_turns-by_outcome : StartTurnsGoByOutcome
start_turns-by_outcome script left play outcome e = ap (start_turn_by script play left (start_turns script left)) e

pub done_with_history : DoneWithHistory
done_with_history script play kept done e = ap (λ (p : Play). key_done script p done) e

pub texts_join : TextsJoin
texts_join first second step = ap (λ (l : List ℕ). let joined : Step = record { session = step.session; text = l } in
    joined) (sym (append_assoc first second step.text))

pub empty_text : EmptyTextAddsNothing
empty_text step = refl

-- undo ----------------------------------------------------------------------------------------------------------------

last_of : (earlier : List Grid) (latest : Grid) → slice_get (earlier ++ latest ∷ []) (length earlier) ≡ Some latest
last_of [] latest = refl
last_of (board ∷ earlier) latest = last_of earlier latest

one_fewer : (earlier : List Grid) (latest : Grid) → length (earlier ++ latest ∷ []) - 1 ≡ length earlier
one_fewer earlier latest = let long : length (earlier ++ latest ∷ []) ≡ length earlier + 1 =
    length-append earlier (latest ∷ []) in omega (arith, long)

back_at-latest : (script : Script) (play : Play) (earlier : List Grid) (latest : Grid) →
    play.history ≡ earlier ++ latest ∷ [] →
    back_at script play (slice_get play.history (length play.history - 1)) ≡ seen script
    (record {
      entry = play.entry;
      board = latest;
      history = earlier;
      restart_board = play.restart_board;
      room =
          play.room;
    })
back_at-latest script play earlier latest e =
    let boards : List Grid = earlier ++ latest ∷ [] in
    let count : length play.history - 1 ≡ length earlier = ap (λ (l : List Grid). length l - 1) e
    ∙ one_fewer earlier latest in
    let found : slice_get play.history (length play.history - 1) ≡ Some latest =
    ap₂ (λ (l : List Grid) (n : ℕ). slice_get l n) e count ∙ last_of earlier latest in
    let left : take (length play.history - 1) play.history ≡ earlier =
    ap₂ (λ (n : ℕ) (l : List Grid). take n l) count e ∙ take-append_seam earlier (latest ∷ []) in
    ap (back_at script play) found
    ∙ ap (λ (l : List Grid). let back : Play =
    seen script (record {
      entry = play.entry;
      board = latest;
      history = l;
      restart_board =
          play.restart_board;
      room = play.room;
    }) in back) left

pub undo_takes_latest : UndoTakesLatest
undo_takes_latest script play earlier latest e =
    ap (λ (back : Play). let step : Step = record { session = Playing back; text = shown script back } in
    step) (back_at-latest script play earlier latest e)

pub undo_of_nothing : UndoOfNothing
undo_of_nothing script play e =
    let found : slice_get play.history (length play.history - 1) ≡ None =
    ap (λ (l : List Grid). slice_get l (length l - 1)) e in
    ap (λ (back : Play). let step : Step = record { session = Playing back; text = shown script back } in
    step) (ap (back_at script play) found)

-- runs ----------------------------------------------------------------------------------------------------------------

pub openings_are_entered : OpeningsAreEntered
unfolding opening_step
openings_are_entered script = refl

pub fronts_are_texts : FrontsAreTexts
fronts_are_texts script bytes = whole_front-is script bytes

-- the keys of a byte more
keys_more : (read : List ℕ) (byte : ℕ) (kept : Held) (found : Option Key) → bytes_of kept ≡ held read →
    key_behind kept byte ≡ found →
    keys_of (read ++ byte ∷ []) ≡ keys_of read ++ option_to_list found
keys_more read byte kept found e k = sym (read_byte_by_byte read byte kept e).0
    ∙ ap (λ (o : Option Key). keys_of read ++ option_to_list o) k

pub silent_bytes : SilentBytesWriteNothing
silent_bytes script read byte kept e k =
    let same : keys_of (read ++ byte ∷ []) ≡ keys_of read = keys_more read byte kept None e k
    ∙ append-nil (keys_of read) in (
      whole_front-is script (read ++ byte ∷ [])
          ∙ ap (λ (l : List Key). (opening_step script).text ++ texts_of_keys script (opening_step script).session l)
          same
          ∙ sym (whole_front-is script read),
      ap (session_after script (opening_step script).session) same,
    )

pub keys_write : KeysWriteTheirTexts
keys_write script read byte kept key e k =
    let start : Session = (opening_step script).session in
    let more : keys_of (read ++ byte ∷ []) ≡ keys_of read ++ key ∷ [] = keys_more read byte kept (Some key) e k in
    let told : List ℕ = (key_step script (session_of script read) key).text in (
      whole_front-is script (read ++ byte ∷ [])
          ∙ ap (λ (l : List Key). (opening_step script).text ++ texts_of_keys script start l) more
          ∙ ap (λ (l : List ℕ). (opening_step script).text ++ l)
          (texts_of_keys-append script start (keys_of read) (key ∷ [])
          ∙ ap (λ (l : List ℕ). texts_of_keys script start (keys_of read) ++ l) (append-nil told))
          ∙ sym (append_assoc (opening_step script).text (texts_of_keys script start (keys_of read)) told)
          ∙ ap (λ (l : List ℕ). l ++ told) (sym (whole_front-is script read)),
      ap (session_after script start) more ∙ session_after-append script start (keys_of read) (key ∷ []),
    )
