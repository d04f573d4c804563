-- What an input does goes by its own turn.
use Rattle.std.proofs.Common.{◌≡◌, ◌∙◌, Option, Some, sym, ap}
use Rattle.ps_model.specs.declared.play.Input.{Input}
use Rattle.ps_model.specs.board.Grid.{Grid}
use Rattle.ps_model.specs.board.Turns.{Script, turn}
use Rattle.ps_model.specs.session.Solving.{Spot}
use Rattle.ps_turn.specs.States.{outcome_shown}
use Rattle.ps_turn.specs.declared.outcomes.DoneTurn.{DoneTurn}
use Rattle.ps_turn.specs.declared.outcomes.Turned.{Turned}
use Rattle.ps_trial.specs.SilentStarts.{Boards}
use Rattle.ps_trial.specs.SilentKeys.{turn_taken, input_taken}
use Rattle.ps_trial.specs.TurnsTaken.{boards_taken}
use Rattle.ps_trial.specs.declared.counting.Counting.TheVariants.{Always}

-- an input goes by its own turn
pub taken_from : (script other : Script) (here now there : Boards) (input : Input) (turned : Turned DoneTurn) (g : Grid)
    (came : Boards → Option Spot) → other ≡ script → now ≡ here →
    outcome_shown turned g ≡ turn script (Some input) here.board → there ≡ boards_taken Always turned here g →
    (there ≡ boards_taken Always turned now g → turn_taken other now (outcome_shown turned g) ≡ came now) →
    input_taken script here input ≡ came here
taken_from script other here now there input turned g came same at ran is comes =
    ap (turn_taken script here) (sym ran)
    ∙ ap (λ (b : Boards). turn_taken script b (outcome_shown turned g)) (sym at)
    ∙ ap (λ (s : Script). turn_taken s now (outcome_shown turned g)) (sym same)
    ∙ comes (is ∙ ap (λ (b : Boards). boards_taken Always turned b g) (sym at))
    ∙ ap came at
