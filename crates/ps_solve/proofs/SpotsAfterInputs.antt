-- Inputs lead from a session in a level to the spot to which they lead from its spot.
use Rattle.std.proofs.Common.{◌≡◌, ◌∙◌, ℕ, true, List, [], ◌∷◌, Option, Some, None, refl, sym}
use Rattle.std.specs.Option.{option_and_then}
use Rattle.std.proofs.lemmas.Bool.{true≢false}
use Rattle.ps_model.specs.declared.play.Input.{Input}
use Rattle.ps_model.specs.declared.play.Key.TheVariants.{Move}
use Rattle.ps_model.specs.board.Turns.{Script}
use Rattle.ps_model.specs.session.KeySteps.{key_step}
use Rattle.ps_model.specs.session.Sessions.{Session}
use Rattle.ps_model.specs.session.Solving.{Spot, at_spot, is_past, next_spot, session_after_inputs, spot, spot_after_inputs}
use Rattle.ps_laws.proofs.sessions.SolvingSpots.{left_levels_are_past, levels_are_not_past, past_stays_past}
use Rattle.ps_laws.proofs.sessions.SolvingSpots.{spots_are_of_sessions, spots_decide}

-- a session that is past a level is at no spot of it
no_spot : (entry : ℕ) (session : Session) (found : Option Spot) → spot entry session ≡ found →
    is_past entry session ≡ true → spot entry session ≡ None
no_spot entry session None at past = at
no_spot entry session (Some here) at past =
    absurd (true≢false (sym past ∙ levels_are_not_past entry session here at))

-- and stays past it
past_for_good : (script : Script) (entry : ℕ) (inputs : List Input) (session : Session) →
    is_past entry session ≡ true → is_past entry (session_after_inputs script session inputs) ≡ true
past_for_good script entry [] session past = past
past_for_good script entry (input ∷ inputs) session past =
    past_for_good script entry inputs (key_step script session (Move input)).session
    (past_stays_past script entry session input past)

pub spots_after : (script : Script) (entry : ℕ) (inputs : List Input) (session : Session) (here : Spot) →
    spot entry session ≡ Some here →
    spot entry (session_after_inputs script session inputs) ≡ spot_after_inputs script entry here inputs
spots_after script entry [] session here at = at
spots_after script entry (input ∷ inputs) session here at =
    by (next_spot script entry here input)
    (spots_decide script entry session (at_spot entry here) here at (spots_are_of_sessions entry here) input)
    (λ then is. spots_after script entry inputs (key_step script session (Move input)).session then is)
  where
    by : (led : Option Spot) → spot entry (key_step script session (Move input)).session ≡ led →
        ((then : Spot) → spot entry (key_step script session (Move input)).session ≡ Some then →
        spot entry (session_after_inputs script (key_step script session (Move input)).session inputs)
        ≡ spot_after_inputs script entry then inputs) →
        spot entry (session_after_inputs script (key_step script session (Move input)).session inputs)
        ≡ option_and_then (λ then. spot_after_inputs script entry then inputs) led
    by None none rest =
        no_spot entry (session_after_inputs script (key_step script session (Move input)).session inputs) _ refl
        (past_for_good script entry inputs (key_step script session (Move input)).session
        (left_levels_are_past script entry session here at input none))
    by (Some then) is rest = rest then is
