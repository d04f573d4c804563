-- What a check tells of a text, in each form.
use Rattle.std.specs.Prelude.{◌≡◌, ◌+◌, ℕ, nat_eq, Bool, true, false, ◌&&◌, ◌||◌, not, List, [], ◌++◌}
use Rattle.std.specs.Prelude.{length, is_some}
use Rattle.ps_model.specs.game.Games.{game}
use Rattle.ps_check.specs.Checks.{check_line}
use Rattle.ps_game.specs.ToldFaults.{told_faults}
use Rattle.ps_report.specs.EditorLines.{IsEditorPage}
use Rattle.ps_report.specs.Fronts.{front_of}
use Rattle.ps_report.specs.Objects.{IsDataLine}
use Rattle.ps_report.specs.Pages.{IsPage}
use Rattle.ps_report.specs.ToldWarnings.{told_warnings}
use Rattle.ps_report.specs.WarningLines.{warning_lines}
use Rattle.ps_report.specs.declared.details.Format.{Format}
use Rattle.ps_report.specs.declared.details.Format.TheVariants.{Text, Gnu, Json}
use Rattle.ps_report.specs.declared.details.How.{How}

-- for people: the line on a text, if it is a game, or else the page of the faults that are told together
abbrev pub IsToldOf : Bool → How → List ℕ → List ℕ → List ℕ → Type 0
IsToldOf true how front text lines = lines ≡ front ++ check_line text
IsToldOf false how front text lines = IsPage how front text (told_faults (how.most + 1) text) lines

-- for editors: nothing on a game, or else a line on each of those faults
abbrev pub IsToldToEditors : Bool → How → List ℕ → List ℕ → List ℕ → Type 0
IsToldToEditors true how name text lines = lines ≡ []
IsToldToEditors false how name text lines = IsEditorPage how name text (told_faults (how.most + 1) text) lines

-- of a text of that name, in a form
abbrev pub IsReportIn : Format → How → List ℕ → List ℕ → List ℕ → Type 0
IsReportIn Text how name text lines = IsToldOf (is_some (game text)) how (front_of how.is_named name) text lines
IsReportIn Gnu how name text lines = IsToldToEditors (is_some (game text)) how name text lines
IsReportIn Json how name text lines = IsDataLine how name text lines

-- in the form that is asked for, and below it a line on each of the warnings
pub record IsReport (how : How) (name text lines : List ℕ) : Type 0 where
  pub plain : List ℕ
  pub is : IsReportIn how.format how name text plain
  pub are : lines ≡ plain ++ warning_lines how name (told_warnings how text)

-- the text is a game, and has no warning that is told, where there may be none
abbrev pub is_well : How → List ℕ → Bool
is_well how text =
    is_some (game text) && (not how.strict || nat_eq (length (told_warnings how text)) 0)
