-- Where sessions are.
use Rattle.std.proofs.Common.{◌≡◌, ◌∙◌, ◌==◌, ℕ, List, Option, Some, None, Bool, true, false, refl, sym, ap, subst}
use Rattle.std.proofs.Common.{Result, arith}
use Rattle.std.specs.Prelude.{IfOk}
use Rattle.std.proofs.lemmas.Bool.Decides.{nat_tests}
use Rattle.ps_model.specs.declared.play.Ending.TheVariants.{TheEnd, Quit, EndOfKeys}
use Rattle.ps_model.specs.session.LevelLines.{Entry}
use Rattle.ps_model.specs.session.Sessions.{Pending, Play, Session, Playing, Waiting, AtMessage, Ended}
use Rattle.ps_model.specs.session.Solving.{spot, spot_of}
use Rattle.ps_stage.specs.StepsShown.{stands}
use Rattle.ps_stage.specs.declared.locations.Pending as staged
use Rattle.ps_session.specs.Phases.{phase_of}
use Rattle.lizhakoven.specs.declared.places.Place.{Place}
use Rattle.lizhakoven.specs.declared.seeing.Seen.{Seen}
use Rattle.lizhakoven.specs.Places.{IsSeen, cells_of, cells_of_level, level_of, number_among, number_of_phase}
use Rattle.lizhakoven.specs.Places.{phase_number, place_in}
use Rattle.lizhakoven.specs.Told.{IsTold}

-- the number of a session's phase is that of the phase that is told
pub phase_is : (session : Session) → number_of_phase (phase_of session) ≡ phase_number session
phase_is (Playing play) = refl
phase_is (Waiting play pending) = refl
phase_is (AtMessage entry) = refl
phase_is (Ended TheEnd) = refl
phase_is (Ended Quit) = refl
phase_is (Ended EndOfKeys) = refl

level_stands : (pending : Option staged.Pending) (play : Play) → level_of (stands pending play) ≡ Some play
level_stands None play = refl
level_stands (Some pending) play = refl

-- a level that is told is the session's
pub level_is : (session : Session) (pending : Option staged.Pending) (play : Play) → session ≡ stands pending play →
    level_of session ≡ Some play
level_is session pending play is = ap level_of is ∙ level_stands pending play

-- a level has a spot
some_spot : (same : Bool) (play : Play) (waits : Option Pending) → same ≡ true → spot_of same play waits ≡ None → ⊥
some_spot true play waits is none = cc
some_spot false play waits is none = cc

own_place : (n : ℕ) → (n == n) ≡ true
own_place n = grind (arith, nat_tests)

-- where no level is told, the session is in none
pub no_level : (session : Session) → ((entry : ℕ) → spot entry session ≡ None) → level_of session ≡ None
no_level (Playing play) none =
    absurd (some_spot (play.entry == play.entry) play None (own_place play.entry) (none play.entry))
no_level (Waiting play pending) none =
    absurd (some_spot (play.entry == play.entry) play (Some pending) (own_place play.entry) (none play.entry))
no_level (AtMessage entry) none = refl
no_level (Ended ending) none = refl

-- what is seen where the session is in no level
pub seen_nowhere : (entries : List Entry) (session : Session) (before : List ℕ) (number : ℕ) (seen : Seen) →
    number ≡ phase_number session → level_of session ≡ None → seen.place ≡ place_in entries number None →
    seen.is_told ≡ true → IsSeen entries session before before seen
seen_nowhere entries session before number seen phase none place told = (
  place ∙ ap (λ (n : ℕ). place_in entries n None) phase
      ∙ ap (λ (play : Option Play). place_in entries (phase_number session) play) (sym none),
  subst (λ (is : Bool). IsTold (cells_of session) before before is) (sym told)
      (subst (λ (play : Option Play). IsTold (cells_of_level play) before before true) (sym none) (omega arith, refl)),
)

-- what is seen where it is in a level
pub seen_level : (entries : List Entry) (session : Session) (play : Play) (before after : List ℕ) (seen : Seen) →
    level_of session ≡ Some play → seen.place ≡ place_in entries (phase_number session) (Some play) →
    IsTold (cells_of_level (Some play)) before after seen.is_told → IsSeen entries session before after seen
seen_level entries session play before after seen level place told = (
  place ∙ ap (λ (here : Option Play). place_in entries (phase_number session) here) (sym level),
  subst (λ (here : Option Play). IsTold (cells_of_level here) before after seen.is_told) (sym level) told,
)

-- a place that is made is the one in a level
pub place_made : (entries : List Entry) (session : Session) (play : Play) (place : Place) →
    place.phase ≡ phase_number session → place.width ≡ play.board.width → place.height ≡ play.board.height →
    place.layers ≡ play.board.layers → place.level ≡ number_among entries play.entry →
    place ≡ place_in entries (phase_number session) (Some play)
place_made entries session play place phase width height layers level =
    rw (← phase, ← width, ← height, ← layers, ← level) refl

-- equal numbers may stand for those that are told
pub told_same : (numbers other before after : List ℕ) (is_told : Bool) → numbers ≡ other →
    IsTold numbers before after is_told → IsTold other before after is_told
told_same numbers other before after is_told same told =
    subst (λ (xs : List ℕ). IsTold xs before after is_told) same told

-- what is seen of a session is seen of an equal one
pub seen_there :
    {E : Type 0} (entries : List Entry) (session other : Session) (before after : List ℕ) (answer : Result Seen E) →
    session ≡ other → IfOk answer (λ seen. IsSeen entries session before after seen) →
    IfOk answer (λ seen. IsSeen entries other before after seen)
seen_there entries session other before after answer same is =
    subst (λ (s : Session). IfOk answer (λ seen. IsSeen entries s before after seen)) same is

-- what is a text is an equal one
pub text_there : {E : Type 0} (answer : Result (List ℕ) E) (text other : List ℕ) → text ≡ other →
    IfOk answer (λ wrote. wrote ≡ text) → IfOk answer (λ wrote. wrote ≡ other)
text_there answer text other same is = subst (λ (t : List ℕ). IfOk answer (λ wrote. wrote ≡ t)) same is
