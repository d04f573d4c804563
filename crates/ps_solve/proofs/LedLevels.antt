-- Where the keys of a run lead that begins at the start of a text's game, or at a level of it.
use Rattle.std.proofs.Common.{◌≡◌, ◌∙◌, ℕ, List, Option, Some, None, Result, Ok, Err, ap, subst, sym, filter, length, take, suc}
use Rattle.std.specs.Prelude.{IfOk, option_map}
use Rattle.ps_model.specs.board.Turns.{Script, script_at, script_of}
use Rattle.ps_model.specs.declared.play.Key.{Key}
use Rattle.ps_model.specs.game.Games.{Game, game}
use Rattle.ps_model.specs.game.LevelRuns.{level_entry}
use Rattle.ps_model.specs.session.Keys.{keys_of}
use Rattle.ps_model.specs.session.LevelLines.{Entry}
use Rattle.ps_model.specs.session.Sessions.{Session, is_level}
use Rattle.ps_laws.specs.Fronts.{session_of}
use Rattle.ps_run.proofs.Rightly.{script_found}
use Rattle.ps_answers.specs.SolvedAfterKeys.{IsSolvedAfterKeys, IsTrueThere, script_from}
use Rattle.ps_answers.specs.declared.solved.SolvedAfter.{SolvedAfter}
use Rattle.ps_answers.specs.declared.solved.SolvedAfter.TheVariants as after
use Rattle.ps_solve.specs.ReadTexts.{ReadText}
use Rattle.ps_solve.specs.SolvedLevels.{IsSolvedAfter}
use Rattle.ps_solve.specs.declared.solved.NotSearched.{NotSearched}
use Rattle.ps_solve.specs.declared.solved.NotSearched.TheVariants as not_searched
use Rattle.ps_solve.specs.declared.solved.SolvedHere.{SolvedHere}
use Rattle.ps_run.proofs.PlayedKeys.{played}
use Rattle.ps_solve.proofs.ReadLevels.{Opened}

-- what is so of each session, where something is found in it, is said of it
abbrev pub Says : (E : Type 0) → List Entry → Result SolvedHere NotSearched → Result SolvedAfter E → Type 0
Says E entries found result = (script : Script) (session : Session) (limit : ℕ) → script.entries ≡ entries →
    IsSolvedAfter script session limit found → IfOk result (IsTrueThere script session limit)

-- of a level its number
pub says_level : (E : Type 0) (entries : List Entry) (here : SolvedHere) (level : ℕ) →
    level ≡ length (filter is_level (take (suc here.entry) entries)) →
    Says E entries (Ok here) (Ok (after.Level level here.solved))
says_level E entries here level numbered script session limit own solved = record {
  entry = here.entry;
  at = solved.0;
  numbered = numbered ∙ ap (λ (es : List Entry). length (filter is_level (take (suc here.entry) es))) (sym own);
  true_of_it = solved.1;
}

-- or that there is none
pub says_no_level : (E : Type 0) (entries : List Entry) →
    Says E entries (Err not_searched.NoLevel) (Ok after.NoLevel)
says_no_level E entries script session limit own nowhere = nowhere

-- so it is said of the session to which the bytes of keys lead
led : (E : Type 0) (text : List ℕ) (script : Script) (start : Option ℕ) (bytes : List ℕ) (limit : ℕ)
    (result : Result SolvedAfter E) → script_from text start ≡ Some script →
    IfOk result (IsTrueThere script (session_of script bytes) limit) →
    IfOk result (IsSolvedAfterKeys text start bytes limit)
led E text script start bytes limit (Ok found) is true_there = record { script = script; is = is; true_there = true_there }
led E text script start bytes limit (Err fault) is true_there = tt

module _ (now : ReadText) (text : List ℕ) (read : Game) (entries : List Entry) (opened : Opened now text read entries) where
  -- a run begins at the first entry of the game
  pub from_start : script_from now.text None ≡ Some (script_at now.read 0)
  from_start =
      subst (λ (t : ReadText). script_from t.text None ≡ Some (script_at t.read 0)) opened.0
      (ap (option_map script_of) opened.1.is)

  -- or at the entry that is found for a level
  pub from_level : (level entry : ℕ) → Some entry ≡ level_entry entries level →
      script_from now.text (Some level) ≡ Some (script_at now.read entry)
  from_level level entry found =
      subst (λ (t : ReadText). script_from t.text (Some level) ≡ Some (script_at t.read entry)) opened.0
      (script_found text level entry read opened.1.is
      (ap (λ (es : List Entry). level_entry es level) (sym opened.2) ∙ sym found))

  pub led_there : (E : Type 0) (start : Option ℕ) (bytes : List ℕ) (keys : List Key) (entry limit : ℕ)
      (found : Result SolvedHere NotSearched) (result : Result SolvedAfter E) →
      script_from now.text start ≡ Some (script_at now.read entry) → keys ≡ keys_of bytes →
      ((of : List ℕ) → game of ≡ Some read →
      IsSolvedAfter (script_at read entry) (played (script_at read entry) keys) limit found) →
      Says E entries found result → IfOk result (IsSolvedAfterKeys now.text start bytes limit)
  led_there E start bytes keys entry limit found result is own searched says =
      let script : Script = script_at read entry in
      let same : now.read ≡ read = sym (ap (λ (t : ReadText). t.read) opened.0) in
      let there : IsSolvedAfter script (session_of script bytes) limit found =
      subst (λ (ks : List Key). IsSolvedAfter script (played script ks) limit found) own (searched text opened.1.is) in
      led E now.text script start bytes limit result (is ∙ ap (λ (g : Game). Some (script_at g entry)) same)
      (says script (session_of script bytes) limit (sym opened.2) there)
