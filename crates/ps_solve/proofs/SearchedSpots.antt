-- What a search finds over the spots of a level is true of the level.
use Rattle.std.proofs.Common.{◌≡◌, ◌∙◌, ◌+◌, inl, inr, ℕ, Bool, true, false, List, [], ◌∷◌, Option, Some, None}
use Rattle.std.proofs.Common.{refl, sym, ap, arith}
use Rattle.std.specs.Prelude.{is_none, slice_index_or}
use Rattle.std.specs.List.{Contains}
use Rattle.std.specs.Option.{option_and_then}
use Rattle.std.proofs.lemmas.Bool.{false≢true}
use Rattle.std.proofs.lemmas.List.Elements.{All-weaker}
use Rattle.ps_model.specs.declared.play.Input.{Input}
use Rattle.ps_model.specs.declared.play.Input.TheVariants.{Up, Down, Left, Right, Action}
use Rattle.ps_model.specs.board.Turns.{Script}
use Rattle.ps_model.specs.session.Sessions.{Session}
use Rattle.ps_model.specs.session.Solving.{session_after_inputs, is_past, Spot, spot, next_spot, spot_after_inputs}
use Rattle.ps_trial.specs.Scripts.{PlaysAs}
use Rattle.ps_trial.specs.SilentStarts.{Boards}
use Rattle.ps_trial.proofs.SameTurns.{spots_of_input}
use Rattle.ps_answers.specs.CoveredSpots.{AreKept, CoversAll, IsLedTo, IsLedWithin}
use Rattle.ps_laws.proofs.sessions.SolvingSpots.{lists_go_by_spots}
use Rattle.ps_search.specs.declared.answers.Found.{Found}
use Rattle.ps_search.specs.declared.answers.Found.TheVariants.{Won, Never, Unknown}
use Rattle.ps_search.specs.Covers as graph
use Rattle.ps_search.specs.Leads.{led, AreGiven}
use Rattle.ps_search.specs.Answers.{IsAnswer}
use Rattle.ps_solve.specs.SolvedLevels.{all_inputs, IsFound}
use Rattle.ps_solve.proofs.SpotsAfterInputs.{spots_after}

-- each input is given
each_given : (input : Input) → Contains all_inputs input
each_given Up = (0, omega arith, refl)
each_given Left = (1, omega arith, refl)
each_given Down = (2, omega arith, refl)
each_given Right = (3, omega arith, refl)
each_given Action = (4, omega arith, refl)

-- where nothing is there, nothing is
none_is : {A : Type 0} (o : Option A) → is_none o ≡ true → o ≡ None
none_is None h = refl
none_is (Some a) h = absurd (false≢true h)

not_true : (b : Bool) → (b ≡ true → ⊥) → b ≡ false
not_true true h = absurd (h refl)
not_true false h = refl

-- what follows is the same
both : (first second : Spot → Option Spot) → ((here : Spot) → first here ≡ second here) → (o : Option Spot) →
    option_and_then first o ≡ option_and_then second o
both first second same None = refl
both first second same (Some here) = same here

module _ (script : Script) (entry : ℕ) (next : Spot → Input → Option Spot)
    (same : (here : Spot) (input : Input) → next here input ≡ next_spot script entry here input) where
  -- the search's lists lead where the definition's do
  same_lists : (here : Spot) (inputs : List Input) → led next here inputs ≡ spot_after_inputs script entry here inputs
  same_lists here [] = refl
  same_lists here (input ∷ inputs) =
      both (λ then. led next then inputs) (λ then. spot_after_inputs script entry then inputs)
      (λ then. same_lists then inputs) (next here input)
      ∙ ap (option_and_then (λ then. spot_after_inputs script entry then inputs)) (same here input)

  module _ (session : Session) (here : Spot) (at : spot entry session ≡ Some here) where
    all_given : (list : List Input) → AreGiven next here all_inputs list
    all_given list = λ k d h. each_given (slice_index_or list k d)

    past_is : (list : List Input) →
        is_past entry (session_after_inputs script session list) ≡ is_none (led next here list)
    past_is list = lists_go_by_spots script entry session here at list ∙ ap is_none (sym (same_lists here list))

    leads_past : (list : List Input) → is_past entry (session_after_inputs script session list) ≡ true →
        led next here list ≡ None
    leads_past list h = none_is (led next here list) (sym (past_is list) ∙ h)

    not_past : (list : List Input) → (led next here list ≡ None → ⊥) →
        is_past entry (session_after_inputs script session list) ≡ false
    not_past list h =
        not_true (is_past entry (session_after_inputs script session list)) (λ e. h (leads_past list e))

    -- inputs lead to the spot to which the search's list leads
    spot_is : (list : List Input) → spot entry (session_after_inputs script session list) ≡ led next here list
    spot_is list = spots_after script entry list session here at ∙ sym (same_lists here list)

    -- so what covers the graph covers the level
    covers_all : (states : ℕ) → graph.CoversAll next here all_inputs states → CoversAll script entry session states
    covers_all states covers = record {
      spots = covers.places;
      many = covers.many;
      each_led =
          All-weaker (graph.IsLedTo next here all_inputs) (IsLedTo script entry session)
          (λ there to. (to.0, spot_is to.0 ∙ to.2)) covers.places covers.each_led;
      all_listed = λ there to. covers.all_listed there (to.0, all_given to.0, sym (spot_is to.0) ∙ to.1);
    }

    are_kept : (depth states : ℕ) → graph.AreKept next here all_inputs depth states →
        AreKept script entry session depth states
    are_kept depth states (inl covers) = inl (record {
      spots = covers.places;
      many = covers.many;
      each_led =
          All-weaker (graph.IsLedWithin next here all_inputs (depth + 1)) (IsLedWithin script entry session (depth + 1))
          (λ there to. (to.0, to.2, spot_is to.0 ∙ to.3)) covers.places covers.each_led;
      all_listed = λ there to. covers.all_listed there (to.0, all_given to.0, to.1, sym (spot_is to.0) ∙ to.2);
    })
    are_kept depth states (inr none) = inr none

    -- an answer that is true of a graph of the level's spots is true of the level
    pub solved : {Fault : Type 0} (limit : ℕ) (found : Found Input Fault) →
        IsAnswer next here all_inputs limit found → IsFound script entry session limit found
    solved limit (Won told) h = record {
      wins = past_is told.items ∙ ap is_none h.wins;
      fewest = λ others wins. h.fewest others (all_given others) (leads_past others wins);
    }
    solved limit (Never states) h =
        (λ list. not_past list (h.0 list (all_given list)), h.1, covers_all states h.2)
    solved limit (Unknown states depth why) h = (
      λ list short. not_past list (h.0 list (all_given list) short),
      h.1,
      h.2,
      are_kept depth states h.3,
    )

abbrev boards_at : Spot → Boards
boards_at here = record { board = here.board; restart_board = here.restart_board }

-- scripts that are played as one lead alike
lead_alike : (script small : Script) → PlaysAs script small → (entry : ℕ) (here : Spot) (input : Input) →
    next_spot small 0 here input ≡ next_spot script entry here input
lead_alike script small plays entry here input =
    let own : PlaysAs small small = record { options = refl; names = refl; plain = refl; late = refl; wins = refl } in
    spots_of_input small small own 0 (boards_at here) here.waits input
    ∙ sym (spots_of_input script small plays entry (boards_at here) here.waits input)

-- an answer that is true of the spots of one script is true of the level of each that is played as it is
pub level_solved : {Fault : Type 0} (limit : ℕ) (small : Script) (here : Spot) (found : Found Input Fault) →
    IsAnswer (next_spot small 0) here all_inputs limit found → (script : Script) (entry : ℕ) (session : Session) →
    PlaysAs script small → spot entry session ≡ Some here → IsFound script entry session limit found
level_solved limit small here found is script entry session plays at =
    solved script entry (next_spot small 0) (lead_alike script small plays entry) session here at limit found is
