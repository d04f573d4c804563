-- What a check tells of a text that is a game, and of one that is none.
use Rattle.std.proofs.Common.{◌≡◌, ◌∙◌, ◌+◌, ◌++◌, ℕ, List, [], Option, Some, None, true, false, sym, ap, subst}
use Rattle.std.specs.Prelude.{is_some}
use Rattle.ps_model.specs.game.Games.{Game, game}
use Rattle.ps_check.specs.Checks.{check_line}
use Rattle.ps_game.specs.ToldFaults.{told_faults}
use Rattle.ps_report.specs.EditorLines.{IsEditorPage}
use Rattle.ps_report.specs.Objects.{IsDataLine, IsRefusedLine, data_line, game_data}
use Rattle.ps_report.specs.Pages.{IsPage}
use Rattle.ps_report.specs.Reports.{IsToldOf, IsToldToEditors}
use Rattle.ps_report.specs.declared.details.How.{How}

pub game_told : (how : How) (front text line lines : List ℕ) → is_some (game text) ≡ true → line ≡ check_line text →
    lines ≡ front ++ line → IsToldOf (is_some (game text)) how front text lines
game_told how front text line lines accepted is are =
    rw accepted (are ∙ ap (λ (bytes : List ℕ). front ++ bytes) is)

pub faults_told : (how : How) (front text lines : List ℕ) → is_some (game text) ≡ false →
    IsPage how front text (told_faults (how.most + 1) text) lines →
    IsToldOf (is_some (game text)) how front text lines
faults_told how front text lines refused page = rw refused page

pub none_told : (how : How) (name text lines : List ℕ) → is_some (game text) ≡ true → lines ≡ [] →
    IsToldToEditors (is_some (game text)) how name text lines
none_told how name text lines accepted none = rw accepted none

pub editors_told : (how : How) (name text lines : List ℕ) → is_some (game text) ≡ false →
    IsEditorPage how name text (told_faults (how.most + 1) text) lines →
    IsToldToEditors (is_some (game text)) how name text lines
editors_told how name text lines refused page = rw refused page

-- the line of an object on a text, by its game, if it is one
abbrev line_by : How → List ℕ → List ℕ → List ℕ → Option Game → Type 0
line_by how name text line read = elim read [
  | Some own ↦ line ≡ data_line (game_data how name text own)
  | None ↦ IsRefusedLine how name text (told_faults (how.most + 1) text) line
]

pub game_line_told : (how : How) (name text line : List ℕ) (read : Game) → game text ≡ Some read →
    line ≡ data_line (game_data how name text read) → IsDataLine how name text line
game_line_told how name text line read is e = subst (line_by how name text line) (sym is) e

pub refused_line_told : (how : How) (name text line : List ℕ) → game text ≡ None →
    IsRefusedLine how name text (told_faults (how.most + 1) text) line → IsDataLine how name text line
refused_line_told how name text line is e = subst (line_by how name text line) (sym is) e
