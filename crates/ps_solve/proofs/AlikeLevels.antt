-- What an answer says of a level is true of another script too, where inputs lead to the same sessions.
use Rattle.std.proofs.Common.{◌≡◌, ◌∙◌, ◌≢◌, ◌==◌, ◌+◌, inl, inr, ℕ, Bool, true, false, List, [], ◌∷◌, Option, Some, None}
use Rattle.std.proofs.Common.{refl, sym, ap, arith}
use Rattle.std.proofs.lemmas.Bool.Decides.{nat_tests}
use Rattle.std.proofs.lemmas.List.Elements.{All-weaker}
use Rattle.ps_model.specs.declared.play.Input.{Input}
use Rattle.ps_model.specs.board.Turns.{Script}
use Rattle.ps_model.specs.session.Sessions.{Pending, Play, Session, Playing, Waiting, AtMessage, Ended}
use Rattle.ps_model.specs.session.Solving.{NotWithin, Spot, is_past, session_after_inputs, spot, spot_of}
use Rattle.ps_laws.proofs.sessions.SolvingSpots.{levels_are_not_past}
use Rattle.ps_answers.specs.CoveredSpots.{AreKept, CoversAll, IsLedTo, IsLedWithin}
use Rattle.ps_answers.specs.SolvedLevels.{IsSolved}
use Rattle.ps_answers.specs.declared.solved.Solved.{Solved}
use Rattle.ps_answers.specs.declared.solved.Solved.TheVariants.{Won, Never, Unknown}
use Rattle.ps_solve.specs.declared.solved.SolvedHere.{SolvedHere}
use Rattle.ps_solve.specs.SolvedLevels.{IsIn, IsNowhere, IsSolvedHere}

-- a session in a level isn't past it without an input
pub not_past_yet : (script : Script) (entry : ℕ) (session : Session) → IsIn entry session →
    NotWithin script entry session 0
not_past_yet script entry session at [] short = levels_are_not_past entry session at.0 at.1
not_past_yet script entry session at (input ∷ inputs) short = absurd (omega (arith, short))

-- nothing is nowhere else
nowhere_else : (same : Bool) (play : Play) (pending : Option Pending) (here : Spot) →
    spot_of same play pending ≡ Some here → same ≡ true
nowhere_else true play pending here e = refl
nowhere_else false play pending here e = absurd (cc e)

other_place : (entry other at : ℕ) (play : Play) (pending : Option Pending) (here : Spot) → entry ≢ other →
    spot_of (at == other) play pending ≡ Some here →
    spot_of (at == entry) play pending ≡ None
other_place entry other at play pending here differ e =
    let is : (at == other) ≡ true = nowhere_else (at == other) play pending here e in
    let same : at ≡ other = grind (arith, nat_tests) in
    let apart : at ≢ entry = λ both. differ (sym both ∙ same) in
    let no_place : (at == entry) ≡ false = grind (arith, nat_tests) in
    ap (λ (own : Bool). spot_of own play pending) no_place

-- a session is in one level
pub in_one_level : (entry other : ℕ) (session : Session) → entry ≢ other → IsIn other session →
    spot entry session ≡ None
in_one_level entry other (Playing play) differ at = other_place entry other play.entry play None at.0 differ at.1
in_one_level entry other (Waiting play pending) differ at =
    other_place entry other play.entry play (Some pending) at.0 differ at.1
in_one_level entry other (AtMessage place) differ at = refl
in_one_level entry other (Ended ending) differ at = refl

module _ (a b : Script) (one other : Session)
    (same : (inputs : List Input) → session_after_inputs a one inputs ≡ session_after_inputs b other inputs) where
  same_past : (entry : ℕ) (inputs : List Input) →
      is_past entry (session_after_inputs b other inputs) ≡ is_past entry (session_after_inputs a one inputs)
  same_past entry inputs = ap (is_past entry) (sym (same inputs))

  same_spot : (entry : ℕ) (inputs : List Input) →
      spot entry (session_after_inputs b other inputs) ≡ spot entry (session_after_inputs a one inputs)
  same_spot entry inputs = ap (spot entry) (sym (same inputs))

  covers_alike : (entry states : ℕ) → CoversAll a entry one states → CoversAll b entry other states
  covers_alike entry states covers = record {
    spots = covers.spots;
    many = covers.many;
    each_led =
        All-weaker (IsLedTo a entry one) (IsLedTo b entry other) (λ here to. (to.0, same_spot entry to.0 ∙ to.1))
        covers.spots covers.each_led;
    all_listed = λ here to. covers.all_listed here (to.0, sym (same_spot entry to.0) ∙ to.1);
  }

  kept_alike : (entry depth states : ℕ) → AreKept a entry one depth states → AreKept b entry other depth states
  kept_alike entry depth states (inl covers) = inl (record {
    spots = covers.spots;
    many = covers.many;
    each_led =
        All-weaker (IsLedWithin a entry one (depth + 1)) (IsLedWithin b entry other (depth + 1))
        (λ here to. (to.0, to.1, same_spot entry to.0 ∙ to.2)) covers.spots covers.each_led;
    all_listed = λ here to. covers.all_listed here (to.0, to.1, sym (same_spot entry to.0) ∙ to.2);
  })
  kept_alike entry depth states (inr none) = inr none

  pub solved_alike : (entry limit : ℕ) (solved : Solved) → IsSolved a entry one limit solved →
      IsSolved b entry other limit solved
  solved_alike entry limit (Won keys) is = record {
    wins = same_past entry keys.items ∙ is.wins;
    fewest = λ others wins. is.fewest others (sym (same_past entry others) ∙ wins);
  }
  solved_alike entry limit (Never states) is =
      (λ inputs. same_past entry inputs ∙ is.0 inputs, is.1, covers_alike entry states is.2)
  solved_alike entry limit (Unknown states depth why) is = (
    λ inputs short. same_past entry inputs ∙ is.0 inputs short,
    is.1,
    is.2,
    kept_alike entry depth states is.3,
  )

  in_alike : (entry : ℕ) → IsIn entry one → IsIn entry other
  in_alike entry at = (at.0, ap (spot entry) (sym (same [])) ∙ at.1)

  nowhere_alike : IsNowhere one → IsNowhere other
  nowhere_alike none entry = ap (spot entry) (sym (same [])) ∙ none entry

  pub here_alike : (limit : ℕ) (found : Option SolvedHere) → IsSolvedHere a one limit found →
      IsSolvedHere b other limit found
  here_alike limit None is = nowhere_alike is
  here_alike limit (Some here) is = (in_alike here.entry is.0, solved_alike here.entry limit here.solved is.1)
