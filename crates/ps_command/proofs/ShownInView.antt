-- What a terminal has of an output that was shown in a view to its end.
use Rattle.std.proofs.Common.{◌≡◌, ℕ, Bool, true, false, List}
use Rattle.std.specs.Prelude.{◌||◌, Option, Result, OnOk, codes}
use Rattle.ps_devices.specs.Devices.{Grows, IsSpent, Loses}
use Rattle.ps_view.specs.declared.sizes.Size.{Size}
use Rattle.ps_view.specs.Beginnings.{Beginning}
use Rattle.ps_view.specs.Pieces.{Piece, output_of}
use Rattle.ps_view.specs.Shown.{IsShown}
use Rattle.ps_view.specs.Views.{view_of}
use Rattle.ps_command.specs.Viewings.{BeginsWith, ShowsOn, ShowsInView}
use Rattle.ps_command.specs.declared.stops.Stop.{Stop}
use Rattle.ps_command.proofs.PlayedInView.{first_false, on_ok}

-- from what is left of the view and of the reader
pub shows_on : (begun : Beginning) (pieces : List Piece) (had left after : Option (List ℕ)) (lost other : Bool) →
    Loses had left (output_of pieces) → IsSpent left → (lost || other) ≡ false →
    (lost ≡ false → IsShown begun pieces after) →
    (begun.keeps_size ≡ true → lost ≡ false →
    Grows begun.before after (view_of begun.game begun.size (output_of pieces))) →
    ShowsOn (codes "-") begun had left after
shows_on begun pieces had left after lost other given ended well shown whole = record {
  pieces = pieces;
  given = λ _. given;
  ended = λ _. ended;
  shown = shown (first_false lost other well);
  whole = λ keeps. whole keeps (first_false lost other well);
}

-- in a view that began with what is known of the game
pub shown_in_view : (answer : Result (Unit {0}) Stop) (text name : List ℕ) (size : Size) (keeps_size : Bool)
    (had left before after : Option (List ℕ)) (begun : Beginning) → BeginsWith text size keeps_size before begun →
    OnOk answer (ShowsOn name begun had left after) →
    OnOk answer (ShowsInView text name size keeps_size had left before after)
shown_in_view answer text name size keeps_size had left before after begun begins shows =
    on_ok answer (λ ended. record { begun = begun; is = begins; ended = ended }) shows
