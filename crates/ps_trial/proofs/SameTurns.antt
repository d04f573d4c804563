-- Scripts that are played as one have the same turns, and so the same spots.
use Rattle.std.proofs.Common.{◌≡◌, ℕ, Option, refl}
use Rattle.ps_model.specs.declared.play.Input.{Input}
use Rattle.ps_model.specs.board.Grid.{Grid}
use Rattle.ps_model.specs.board.Turns.{Script, turn}
use Rattle.ps_model.specs.session.Sessions.{Pending}
use Rattle.ps_model.specs.session.Solving.{next_spot}
use Rattle.ps_trial.specs.SilentStarts.{Boards, spot_with}
use Rattle.ps_trial.specs.SilentKeys.{next_by}
use Rattle.ps_trial.specs.Scripts.{PlaysAs}
use Rattle.ps_trial.proofs.SilentSpots.{next_is}

same_turn : (script other : Script) → PlaysAs script other → (input : Option Input) (g : Grid) →
    turn script input g ≡ turn other input g
unfolding turn
same_turn script other h input g = rw (h.options, h.names, h.plain, h.late, h.wins) refl

pub spots_of_input : (script other : Script) → PlaysAs script other → (entry : ℕ) (boards : Boards) (waits : Option Pending)
    (input : Input) → next_spot script entry (spot_with boards waits) input ≡ next_by other boards waits input
spots_of_input script other h entry boards waits input =
    next_is entry script other (same_turn script other h) h.options boards waits input
