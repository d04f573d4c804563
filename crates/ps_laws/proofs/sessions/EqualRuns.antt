-- Scripts with equal turns have the same runs.
use Rattle.std.proofs.Common.{◌≡◌, ℕ, Option, Some, None, List, [], ◌∷◌, ◌++◌, length, take, refl, ◌∙◌, ap}
use Rattle.std.specs.Prelude.{codes}
use Rattle.ps_model.specs.declared.play.Ending.{Ending}
use Rattle.ps_model.specs.declared.play.Key.{Key}
use Rattle.ps_model.specs.board.Grid.{Grid}
use Rattle.ps_model.specs.board.Programs.{Section}
use Rattle.ps_model.specs.board.Turns.{Script}
use Rattle.ps_model.specs.session.Frames.{written_line}
use Rattle.ps_model.specs.session.Keys.{keys_of}
use Rattle.ps_model.specs.session.Sessions.{Session, Step}
use Rattle.ps_model.specs.session.StartSteps.{enter}
use Rattle.ps_model.specs.session.KeySteps.{key_step}
use Rattle.ps_model.specs.game.Outputs.{after_text, output, output_of_keys, opening_step, ending_of, texts_of_keys}
use Rattle.ps_model.specs.game.Outputs.{front}
use Rattle.ps_laws.specs.Fronts.{session_after, session_of, whole_front}
use Rattle.ps_laws.specs.SessionBoards.{AreBoardsIn}
use Rattle.ps_laws.specs.AlikeScripts.{EqualSteps, SameRuns}
use Rattle.ps_laws.proofs.sessions.EqualSteps.{with_rules, EqualTurns, after-equal}
use Rattle.ps_laws.proofs.sessions.EqualStarts.{enter-equal}
use Rattle.ps_laws.proofs.sessions.EqualKeys.{key_step-equal}

module _ (IsSuch : Grid → Type 0) (a : Script) (plain late : List Section)
    (both : EqualTurns IsSuch a (with_rules a plain late)) where
  -- the script with other rules
  abbrev b : Script
  b = with_rules a plain late

  key_too : (session : Session) (key : Key) → AreBoardsIn IsSuch session →
      EqualSteps IsSuch (key_step a session key) (key_step b session key)
  key_too session key h = key_step-equal IsSuch a plain late both session key h

  -- the opening
  pub opening_step-equal : EqualSteps IsSuch (opening_step a) (opening_step b)
  unfolding opening_step
  opening_step-equal = after-equal IsSuch (written_line (codes "= ") a.title) (enter a a.first_entry)
      (enter b a.first_entry) (enter-equal IsSuch a plain late both a.first_entry)

  -- keys in a row -----------------------------------------------------------------------------------------------------

  pub session_after-boards : (session : Session) (keys : List Key) → AreBoardsIn IsSuch session →
      AreBoardsIn IsSuch (session_after a session keys)
  session_after-boards session [] h = h
  session_after-boards session (key ∷ keys) h =
      session_after-boards (key_step a session key).session keys (key_too session key h).boards

  session_after-equal : (session : Session) (keys : List Key) → AreBoardsIn IsSuch session →
      session_after a session keys ≡ session_after b session keys
  session_after-equal session [] h = refl
  session_after-equal session (key ∷ keys) h =
      let here = key_too session key h in
      session_after-equal (key_step a session key).session keys here.boards
      ∙ ap (λ (step : Step). session_after b step.session keys) here.equal

  texts-equal : (session : Session) (keys : List Key) → AreBoardsIn IsSuch session →
      texts_of_keys a session keys ≡ texts_of_keys b session keys
  texts-equal session [] h = refl
  texts-equal session (key ∷ keys) h =
      let here = key_too session key h in
      ap (λ (l : List ℕ). (key_step a session key).text ++ l)
      (texts-equal (key_step a session key).session keys here.boards)
      ∙ ap (λ (step : Step). step.text ++ texts_of_keys b step.session keys) here.equal

  output_of_keys-equal : (session : Session) (found : Option Ending) (keys : List Key) → AreBoardsIn IsSuch session →
      output_of_keys a session found keys ≡ output_of_keys b session found keys
  output_of_keys-equal session (Some ending) keys h = refl
  output_of_keys-equal session None [] h = refl
  output_of_keys-equal session None (key ∷ keys) h =
      let here = key_too session key h in
      let next : Step = key_step a session key in
      ap (after_text next.text) (output_of_keys-equal next.session (ending_of next.session) keys here.boards)
      ∙ ap (λ (step : Step). after_text step.text (output_of_keys b step.session (ending_of step.session) keys))
      here.equal

  -- runs --------------------------------------------------------------------------------------------------------------

  output-equal : (bytes : List ℕ) → output a bytes ≡ output b bytes
  output-equal bytes =
      let start : Step = opening_step a in
      ap (after_text start.text) (output_of_keys-equal start.session (ending_of start.session) (keys_of bytes)
      opening_step-equal.boards)
      ∙ ap (λ (step : Step). after_text step.text
      (output_of_keys b step.session (ending_of step.session) (keys_of bytes))) opening_step-equal.equal

  front-equal : (bytes : List ℕ) (count : ℕ) → front a bytes count ≡ front b bytes count
  front-equal bytes count =
      let keys : List Key = take count (keys_of bytes) in
      ap (λ (l : List ℕ). (opening_step a).text ++ l)
      (texts-equal (opening_step a).session keys opening_step-equal.boards)
      ∙ ap (λ (step : Step). step.text ++ texts_of_keys b step.session keys) opening_step-equal.equal

  whole_front-equal : (bytes : List ℕ) → whole_front a bytes ≡ whole_front b bytes
  unfolding whole_front
  whole_front-equal bytes = front-equal bytes (length (keys_of bytes))

  session_of-equal : (bytes : List ℕ) → session_of a bytes ≡ session_of b bytes
  session_of-equal bytes =
      session_after-equal (opening_step a).session (keys_of bytes) opening_step-equal.boards
      ∙ ap (λ (step : Step). session_after b step.session (keys_of bytes)) opening_step-equal.equal

  pub runs-equal : SameRuns a b
  runs-equal = record {
    options = refl;
    outputs = output-equal;
    fronts = front-equal;
    whole_fronts = whole_front-equal;
    sessions =
        session_of-equal;
  }

  pub session_of-boards : (bytes : List ℕ) → AreBoardsIn IsSuch (session_of a bytes)
  session_of-boards bytes = session_after-boards (opening_step a).session (keys_of bytes) opening_step-equal.boards
