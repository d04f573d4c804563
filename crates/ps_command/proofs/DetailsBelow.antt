-- What stands below the line on a text.
use Rattle.std.proofs.Common.{◌≡◌, ◌∙◌, true, false, List, [], ℕ, Option, Some, refl, subst, sym, ap, unwrap_or}
use Rattle.std.proofs.lemmas.List.{append-nil}
use Rattle.std.specs.Prelude.{is_some}
use Rattle.ps_model.specs.declared.faults.Fault.{Fault}
use Rattle.ps_model.specs.game.Games.{faults, game}
use Rattle.ps_model.specs.text.Faults.{first_fault}
use Rattle.ps_devices.specs.Devices.{Grows}
use Rattle.ps_command.specs.Details.{IsDetail, TellsOn}
use Rattle.ps_report.specs.Details.{AreLinesOn}
use Rattle.ps_report.specs.declared.details.Detail.{Detail}
use Rattle.ps_report.specs.declared.details.Detail.TheVariants.{Line, Why}

-- nothing is told of a game
no_detail : (detail : Detail) (text : List ℕ) → is_some (game text) ≡ true → IsDetail detail text []
no_detail Line text accepted = refl
no_detail Why text accepted = rw accepted refl

-- the line on a game stands alone
pub line_alone : (detail : Detail) (text line : List ℕ) (before after : Option (List ℕ)) →
    is_some (game text) ≡ true → Grows before after line → TellsOn detail text line before after
line_alone detail text line before after accepted wrote =
    record {
      more = [];
      is = no_detail detail text accepted;
      wrote = subst (λ (bytes : List ℕ). Grows before after bytes) (sym (append-nil line)) wrote;
    }

-- lines on its first fault are what stands below the line on a text that is no game
pub lines_below : (text lines : List ℕ) (fault : Fault) → is_some (game text) ≡ false →
    first_fault (faults text) ≡ Some fault → AreLinesOn text fault lines → IsDetail Why text lines
lines_below text lines fault refused first on =
    rw refused (λ other same.
    let is : fault ≡ other = ap (λ (told : Option Fault). unwrap_or told fault) (sym first ∙ same) in
    subst (λ (each : Fault). AreLinesOn text each lines) is on)
