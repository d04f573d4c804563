-- What is told of the levels of texts.
use Rattle.std.specs.Prelude.{◌≡◌, ◌⊎◌, ℕ, Bool, true, false, nat_lt, Option, List, [], length, Some}
use Rattle.ps_model.specs.declared.faults.Fault.{Fault}
use Rattle.ps_model.specs.game.Games.{faults}
use Rattle.ps_model.specs.text.Faults.{first_fault}
use Rattle.ps_answers.specs.Forms.{told_in}
use Rattle.ps_answers.specs.SolvedTexts.{LacksAsked}
use Rattle.ps_answers.specs.TellsLevels.{AreLinesOn, Telling, Tells}
use Rattle.ps_answers.specs.declared.forms.Form.{Form}
use Rattle.ps_answers.specs.declared.forms.Form.TheVariants as form
use Rattle.ps_devices.specs.Devices.{Loses}
use Rattle.ps_report.specs.Reports.{IsReport}
use Rattle.ps_report.specs.declared.details.Detail.TheVariants as detail
use Rattle.ps_report.specs.declared.details.Format.{Format}
use Rattle.ps_report.specs.declared.details.Format.TheVariants as format
use Rattle.ps_report.specs.declared.details.How.{How}
use Rattle.ps_command.specs.declared.command.Solve.{Solve}
use Rattle.ps_command.specs.declared.solving.Question.{Question}

-- what is asked where the command line says this
abbrev pub question_of : Solve → Question
question_of asked = record {
  level = asked.level;
  limit = asked.limit;
  is_named = nat_lt 1 (length asked.paths.items);
  is_data = asked.is_data;
}

-- in which form answers are told
abbrev pub form_of : Question → Form
form_of asked = elim asked.is_data [
  | true ↦ form.Object
  | false ↦ elim asked.is_named [ true ↦ form.NamedLine | false ↦ form.Line ]
]

-- how the answer about a level is told, of the text of that name
abbrev pub telling_of : Question → List ℕ → Telling
telling_of asked name = told_in (form_of asked) name

-- in which form a text is told that is no game
abbrev pub format_of : Question → Format
format_of asked = elim asked.is_data [ true ↦ format.Json | false ↦ format.Text ]

-- as a check tells its first fault
abbrev pub how_refused : Question → How
how_refused asked = record {
  format = format_of asked;
  is_named = asked.is_named;
  detail = detail.Line;
  most = 1;
  counts = false;
  warns = false;
  strict = false;
}

-- lines on levels of some text of this name, which can all be won
pub record AreWonLines (asked : Question) (name lines : List ℕ) : Type 0 where
  pub text : List ℕ
  pub are : AreLinesOn asked.level text (telling_of asked name) asked.limit true lines

-- lines on levels of a text
pub record AreLinesOnText (asked : Question) (name text lines : List ℕ) : Type 0 where
  pub won : Bool
  pub are : AreLinesOn asked.level text (telling_of asked name) asked.limit won lines

-- the text is refused: it has a fault
abbrev pub IsRefused : List ℕ → Type 0
IsRefused text = (fault : Fault) × (first_fault (faults text) ≡ Some fault)

-- what a check tells of a text that is refused
pub record IsLineOnRefused (asked : Question) (name text line : List ℕ) : Type 0 where
  pub refused : IsRefused text
  pub is : IsReport (how_refused asked) name text line

-- what is told of a text: lines on its levels; of one that is refused, what a check tells; nothing of one whose game
-- lacks the level
abbrev pub AreLinesToldOfText : Question → List ℕ → List ℕ → List ℕ → Type 0
AreLinesToldOfText asked name text lines =
    AreLinesOnText asked name text lines
    ⊎ (IsLineOnRefused asked name text lines ⊎ (LacksAsked text asked.level × (lines ≡ [])))

-- what is told of some text
pub record AreLinesToldOfSome (asked : Question) (name lines : List ℕ) : Type 0 where
  pub text : List ℕ
  pub are : AreLinesToldOfText asked name text lines

-- the same, or nothing, for a file that can't be read
abbrev pub AreLinesToldOf : Question → List ℕ → List ℕ → Type 0
AreLinesToldOf asked name lines = (lines ≡ []) ⊎ AreLinesToldOfSome asked name lines

-- what is told of a text that a reader has given
pub record TellsOfGivenText (asked : Question) (name : List ℕ) (had left : Option (List ℕ))
    (before after : Option (List ℕ)) : Type 0 where
  pub text : List ℕ
  pub given : Loses had left text
  pub told : Tells (AreLinesToldOfText asked name text) before after
