-- Where inputs lead from the spot where a search is.
use Rattle.std.proofs.Common.{◌≡◌, ℕ, List, Option, Some, refl, sym, subst}
use Rattle.ps_model.specs.declared.play.Input.{Input}
use Rattle.ps_model.specs.board.Turns.{Script}
use Rattle.ps_model.specs.session.Solving.{Spot, next_spot}
use Rattle.ps_rows.specs.Packings.{packed_grid}
use Rattle.ps_trial.specs.Desks.{TrialValue}
use Rattle.ps_trial.specs.Scripts.{PlaysAs}
use Rattle.ps_trial.specs.SilentStarts.{spot_with}
use Rattle.ps_trial.specs.Told.{waits_shown}
use Rattle.ps_trial.specs.declared.told.Pending.{Pending}
use Rattle.ps_solve.specs.SpotKeys.{KeyTable, restart_grid, spot_at, IsAt}
use Rattle.ps_solve.proofs.KeptKeys.{same_spot}

-- a script is played as itself
pub plays_as_itself : (script : Script) → PlaysAs script script
plays_as_itself script = record { options = refl; names = refl; plain = refl; late = refl; wins = refl }

module _ (keys : KeyTable) (trial : TrialValue) (words : List ℕ) (restart : ℕ) (waits : Option Pending)
    (at : IsAt keys trial words restart) where
  -- the spot of the key is that of the trial
  pub here_is : spot_at keys words restart waits ≡ spot_with trial.here (waits_shown waits)
  here_is =
      same_spot (packed_grid keys.packed words) trial.here.board (restart_grid keys restart) trial.here.restart_board
      (waits_shown waits) (sym at.board) (sym at.restart_board)

  -- an input leads from there where it leads from the trial's spot
  pub led_from : (script : Script) (input : Input) (came : Option Spot) →
      next_spot script 0 (spot_with trial.here (waits_shown waits)) input ≡ came →
      next_spot script 0 (spot_at keys words restart waits) input ≡ came
  led_from script input came led =
      subst (λ (here : Spot). next_spot script 0 here input ≡ came) (sym here_is) led

  -- to the same spot, if it leads to the trial's
  pub led_nowhere : (script : Script) (input : Input) →
      next_spot script 0 (spot_with trial.here (waits_shown waits)) input
      ≡ Some (spot_with trial.here (waits_shown waits)) →
      next_spot script 0 (spot_at keys words restart waits) input ≡ Some (spot_at keys words restart waits)
  led_nowhere script input led =
      subst (λ (here : Spot). next_spot script 0 here input ≡ Some here) (sym here_is) led
