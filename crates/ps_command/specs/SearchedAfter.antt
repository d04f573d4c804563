-- What is told of the level to which the keys of a run lead.
use Rattle.std.specs.Prelude.{◌≡◌, ◌≢◌, ◌<◌, ◌⊎◌, ℕ, Bool, true, false, Option, List, codes, length}
use Rattle.ps_model.specs.declared.limits.TheConstants.{READ_LIMIT}
use Rattle.ps_answers.specs.SolvedAfterKeys.{IsSolvedAfterKeys}
use Rattle.ps_answers.specs.SolvedTexts.{LacksLevel}
use Rattle.ps_answers.specs.TellsAfterKeys.{IsLineAfterKeys}
use Rattle.ps_answers.specs.TellsLevels.{Tells}
use Rattle.ps_answers.specs.declared.solved.SolvedAfter.TheVariants as found
use Rattle.ps_devices.specs.Devices.{Loses}
use Rattle.ps_command.specs.Searched.{IsLineOnRefused, telling_of}
use Rattle.ps_command.specs.declared.after_keys.SolveAfter.{SolveAfter}
use Rattle.ps_command.specs.declared.solving.Question.{Question}

-- what is asked of the text: there is one
abbrev pub question_after : SolveAfter → Question
question_after asked = record {
  level = asked.level;
  limit = asked.limit;
  is_named = false;
  is_data = asked.is_data;
}

-- the line on the level to which keys lead in the game of a text of that name: the level can be won from there, or not
abbrev pub IsLineOnLed : Question → List ℕ → List ℕ → List ℕ → Bool → List ℕ → Type 0
IsLineOnLed asked name text keys won line =
    IsLineAfterKeys text asked.level keys (telling_of asked name) asked.limit won line

-- the same of a level that can be won from there
abbrev pub IsLineOnWon : Question → List ℕ → List ℕ → List ℕ → List ℕ → Type 0
IsLineOnWon asked name text keys line = IsLineOnLed asked name text keys true line

-- that of one that can't, or isn't known to; or, of a text that is refused, what a check tells
abbrev pub IsLineOnUnwon : Question → List ℕ → List ℕ → List ℕ → List ℕ → Type 0
IsLineOnUnwon asked name text keys line =
    IsLineOnLed asked name text keys false line ⊎ IsLineOnRefused asked name text line

-- a text and keys that were read: what a reader has given is one of them, where that is asked for by the name `-`
pub record AreRead (asked : SolveAfter) (had left : Option (List ℕ)) (text keys : List ℕ) : Type 0 where
  pub text_given : asked.game.now ≡ codes "-" → asked.keys.now ≢ codes "-" → Loses had left text
  pub keys_given : asked.game.now ≢ codes "-" → asked.keys.now ≡ codes "-" → Loses had left keys

-- of such a text and such keys a line of this kind is told
pub record TellsOfRead (asked : SolveAfter) (Is : Question → List ℕ → List ℕ → List ℕ → List ℕ → Type 0)
    (had left : Option (List ℕ)) (before after : Option (List ℕ)) : Type 0 where
  pub text : List ℕ
  pub keys : List ℕ
  pub read : AreRead asked had left text keys
  pub told : Tells (Is (question_after asked) asked.game.now text keys) before after

-- the keys lead to no level of the text's game
abbrev pub LeadNowhere : Question → List ℕ → List ℕ → Type 0
LeadNowhere asked text keys = IsSolvedAfterKeys text asked.level keys asked.limit found.NoLevel

-- the text's game, with so many levels, lacks the one at which the run is to begin
abbrev pub LacksStart : ℕ → ℕ → Question → List ℕ → List ℕ → Type 0
LacksStart level levels asked text keys = LacksLevel text asked.level level levels

-- nothing is told of such a text and such keys, and this is so of them
pub record IsSilentOnRead (asked : SolveAfter) (Holds : Question → List ℕ → List ℕ → Type 0)
    (had left : Option (List ℕ)) (before after : Option (List ℕ)) : Type 0 where
  pub text : List ℕ
  pub keys : List ℕ
  pub read : AreRead asked had left text keys
  pub holds : Holds (question_after asked) text keys
  pub silent : after ≡ before

-- a reader has given more keys than may be read
pub record HasGivenTooMany (had left : Option (List ℕ)) : Type 0 where
  pub keys : List ℕ
  pub given : Loses had left keys
  pub many : READ_LIMIT < length keys
