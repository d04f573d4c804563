-- What a key leaves that didn't come to its end.
use Rattle.std.specs.Prelude.{◌≡◌, ℕ, List, ◌++◌}
use Rattle.ps_model.specs.board.Turns.{Script}
use Rattle.ps_model.specs.session.Sessions.{Step}
use Rattle.ps_model.specs.session.StartSteps.{enter}
use Rattle.ps_stage.specs.declared.stops.Stop.{Stop}
use Rattle.ps_stage.specs.declared.stops.Stop.TheVariants.{Memory, Elsewhere}

-- an entry is still to begin: then the session of the step is there, and its text is added
pub record BeginsAt (script : Script) (entry : ℕ) (step : Step) (before now : List ℕ) : Type 0 where
  pub session : step.session ≡ (enter script entry).session
  pub text : before ++ step.text ≡ now ++ (enter script entry).text

-- where memory was wanting, the output is as before
abbrev pub IsLeft : Script → Stop → Step → List ℕ → List ℕ → Type 0
IsLeft script Memory step before now = now ≡ before
IsLeft script (Elsewhere entry) step before now = BeginsAt script entry step before now
