-- Where a session is, as it says itself.
use Rattle.std.proofs.Common.{◌≡◌, ◌∙◌, ◌==◌, ℕ, Bool, true, false, Option, Some, None, refl, sym, ap, arith}
use Rattle.std.proofs.lemmas.Bool.Decides.{nat_tests}
use Rattle.ps_model.specs.declared.play.Ending.{Ending}
use Rattle.ps_model.specs.game.Outputs.{ending_of}
use Rattle.ps_model.specs.session.Sessions.{Pending, Play, Session, Playing, Waiting, AtMessage, Ended}
use Rattle.ps_model.specs.session.Solving.{spot, spot_of}
use Rattle.ps_records.specs.Courses.{place_of}
use Rattle.ps_records.specs.declared.courses.Place.{Place}
use Rattle.ps_stage.specs.StepsShown.{stands}
use Rattle.ps_stage.specs.declared.locations.Pending as staged

-- in the level of an entry, and in none
abbrev pub at_entry : ℕ → Place
at_entry entry = record { level = Some entry; ending = None }

abbrev pub at_none : Option Ending → Place
at_none ending = record { level = None; ending = ending }

standing : (waits : Option staged.Pending) (play : Play) → place_of (stands waits play) ≡ at_entry play.entry
standing None play = refl
standing (Some pending) play = refl

-- a session that stands in a level is there
pub in_level : (session : Session) (waits : Option staged.Pending) (play : Play) (entry : ℕ) →
    session ≡ stands waits play → entry ≡ play.entry → at_entry entry ≡ place_of session
in_level session waits play entry is same =
    ap at_entry same ∙ sym (ap place_of is ∙ standing waits play)

-- a level has a spot
some_spot : (same : Bool) (play : Play) (waits : Option Pending) → same ≡ true → spot_of same play waits ≡ None → ⊥
some_spot true play waits is none = cc
some_spot false play waits is none = cc

own_place : (n : ℕ) → (n == n) ≡ true
own_place n = grind (arith, nat_tests)

-- a session without a spot is in no level
pub in_none : (session : Session) (ending : Option Ending) → ((entry : ℕ) → spot entry session ≡ None) →
    ending ≡ ending_of session → at_none ending ≡ place_of session
in_none (Playing play) ending none is =
    absurd (some_spot (play.entry == play.entry) play None (own_place play.entry) (none play.entry))
in_none (Waiting play pending) ending none is =
    absurd (some_spot (play.entry == play.entry) play (Some pending) (own_place play.entry) (none play.entry))
in_none (AtMessage entry) ending none is = ap at_none is
in_none (Ended how) ending none is = ap at_none is

-- what is so of the session of a game in play
pub place_there : (own session : Session) (place : Place) → own ≡ session → place ≡ place_of own →
    place ≡ place_of session
place_there own session place same is = is ∙ ap place_of same
