-- The line on the level to which the keys of a run lead.
use Rattle.std.proofs.Common.{◌≡◌, ◌≢◌, ℕ, inl, inr, List, Option, Bool, true, false, Result, Ok, Err, subst, sym}
use Rattle.std.specs.Prelude.{OnOk, codes}
use Rattle.ps_answers.specs.Forms.{told_in}
use Rattle.ps_answers.specs.TellsAfterKeys.{IsLineAfterKeys}
use Rattle.ps_answers.specs.TellsLevels.{Tells}
use Rattle.ps_answers.specs.declared.forms.Form.{Form}
use Rattle.ps_devices.specs.Devices.{Loses}
use Rattle.ps_command.specs.Searched.{IsLineOnRefused, form_of}
use Rattle.ps_command.specs.SearchedAfter.{IsLineOnUnwon, IsLineOnWon, IsSilentOnRead, TellsOfRead, question_after}
use Rattle.ps_command.specs.declared.after_keys.SolveAfter.{SolveAfter}
use Rattle.ps_command.specs.declared.solving.Question.{Question}

module _ (asked : Question) (name text keys : List ℕ) (form : Form) (before after : Option (List ℕ))
    (is : form ≡ form_of asked) where
  -- a line in that form, as it is asked for
  in_form : (won : Bool) →
      Tells (IsLineAfterKeys text asked.level keys (told_in form name) asked.limit won) before after →
      Tells (IsLineAfterKeys text asked.level keys (told_in (form_of asked) name) asked.limit won) before after
  in_form won told =
      subst (λ (f : Form). Tells (IsLineAfterKeys text asked.level keys (told_in f name) asked.limit won) before after)
      is told

  pub led_won : Tells (IsLineAfterKeys text asked.level keys (told_in form name) asked.limit true) before after →
      Tells (IsLineOnWon asked name text keys) before after
  led_won told =
      let own = in_form true told in record { lines = own.lines; are = own.are; wrote = own.wrote }

  pub led_unwon : Tells (IsLineAfterKeys text asked.level keys (told_in form name) asked.limit false) before after →
      Tells (IsLineOnUnwon asked name text keys) before after
  led_unwon told =
      let own = in_form false told in record { lines = own.lines; are = inl own.are; wrote = own.wrote }

-- what is told of a text that is refused
pub led_refused : (asked : Question) (name text keys : List ℕ) (before after : Option (List ℕ)) →
    Tells (IsLineOnRefused asked name text) before after → Tells (IsLineOnUnwon asked name text keys) before after
led_refused asked name text keys before after told =
    record { lines = told.lines; are = inr told.are; wrote = told.wrote }

-- of a text that is read first, and of keys that are read then, such a line is told
pub told_of_read :
    (asked : SolveAfter) (Is : Question → List ℕ → List ℕ → List ℕ → List ℕ → Type 0) (question : Question)
    (had between left : Option (List ℕ)) (text keys : List ℕ) (before after : Option (List ℕ)) →
    question ≡ question_after asked →
    (asked.game.now ≡ codes "-" → Loses had between text) → (asked.game.now ≢ codes "-" → between ≡ had) →
    (asked.keys.now ≡ codes "-" → Loses between left keys) → (asked.keys.now ≢ codes "-" → left ≡ between) →
    Tells (Is question asked.game.now text keys) before after → TellsOfRead asked Is had left before after
told_of_read asked Is question had between left text keys before after is given ungiven keyed unkeyed told = record {
  text = text;
  keys = keys;
  read = record {
    text_given = λ game others. subst (λ (l : Option (List ℕ)). Loses had l text) (sym (unkeyed others)) (given game);
    keys_given = λ others own. subst (λ (l : Option (List ℕ)). Loses l left keys) (ungiven others) (keyed own);
  };
  told = subst (λ (q : Question). Tells (Is q asked.game.now text keys) before after) is told;
}

-- where nothing is told, the same is so of what was read
pub silent_on_read :
    (asked : SolveAfter) (Holds : Question → List ℕ → List ℕ → Type 0) (question : Question)
    (had between left : Option (List ℕ)) (text keys : List ℕ) (before after : Option (List ℕ)) →
    question ≡ question_after asked →
    (asked.game.now ≡ codes "-" → Loses had between text) → (asked.game.now ≢ codes "-" → between ≡ had) →
    (asked.keys.now ≡ codes "-" → Loses between left keys) → (asked.keys.now ≢ codes "-" → left ≡ between) →
    Holds question text keys × (after ≡ before) → IsSilentOnRead asked Holds had left before after
silent_on_read asked Holds question had between left text keys before after is given ungiven keyed unkeyed so = record {
  text = text;
  keys = keys;
  read = record {
    text_given = λ game others. subst (λ (l : Option (List ℕ)). Loses had l text) (sym (unkeyed others)) (given game);
    keys_given = λ others own. subst (λ (l : Option (List ℕ)). Loses l left keys) (ungiven others) (keyed own);
  };
  holds = subst (λ (q : Question). Holds q text keys) is so.0;
  silent = so.1;
}
