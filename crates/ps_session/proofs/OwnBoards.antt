-- The level that comes next in a session is the one before, or one for which the boards are.
use Rattle.std.proofs.Common.{◌≡◌, ℕ, suc, true, List, Option, Some, None, Bool, refl, sym, subst, arith}
use Rattle.ps_model.specs.board.Grid.{Grid}
use Rattle.ps_model.specs.session.Sessions as model
use Rattle.ps_stage.specs.Locations.{change_shown, location_shown}
use Rattle.ps_stage.specs.OwnBoards.{has_boards, ChangeFits, StaysOrFits}
use Rattle.ps_session.specs.KeyAnswers.{AnswerFitsFrom}
use Rattle.ps_session.specs.OwnBoards.{SessionFits}
use Rattle.ps_stage.specs.Standings.{SessionParts, Standing}
use Rattle.ps_stage.specs.declared.locations.Location.{Location}
use Rattle.ps_stage.specs.declared.locations.Location.TheVariants.{Playing, Waiting, AtMessage, Ended}
use Rattle.ps_stage.specs.declared.locations.Change.{Change}
use Rattle.ps_stage.specs.declared.locations.Change.TheVariants.{Stays, Undoes, Goes}

-- where a player stays, no level begins
pub plays_on : (parts : SessionParts) (before now : model.Session) → now ≡ before → SessionFits parts before now
plays_on parts before now same = subst (λ (s : model.Session). SessionFits parts before s) (sym same) (here before)
  where
    here : (session : model.Session) → SessionFits parts session session
    here (model.Playing play) = λ other. absurd (other refl)
    here (model.Waiting play pending) = λ other. absurd (other refl)
    here (model.AtMessage message) = tt
    here (model.Ended ending) = tt

-- a number that isn't that of an entry
anew : (parts : SessionParts) (entry : ℕ) → ((before : ℕ) → StaysOrFits parts before entry) →
    has_boards parts entry ≡ true
anew parts entry fits = fits (suc entry) (λ same. absurd (omega (arith, same)))

-- a level that is come to
from_level : (parts : SessionParts) (grids : List Grid) (level : Standing) (next : Change Standing (List Bool)) →
    ChangeFits parts level.entry next →
    SessionFits parts (location_shown grids (Playing level)) (change_shown grids (Playing level) next)
from_level parts grids level (Stays None) fits = λ other. absurd (other refl)
from_level parts grids level (Stays (Some pending)) fits = λ other. absurd (other refl)
from_level parts grids level (Undoes back) fits = fits
from_level parts grids level (Goes (Playing next) history_change rows) fits = fits
from_level parts grids level (Goes (Waiting next pending) history_change rows) fits = fits
from_level parts grids level (Goes (AtMessage entry) history_change rows) fits = tt
from_level parts grids level (Goes (Ended ending) history_change rows) fits = tt

from_message : (parts : SessionParts) (grids : List Grid) (entry : ℕ) (next : Change Standing (List Bool)) →
    ((before : ℕ) → ChangeFits parts before next) →
    SessionFits parts (location_shown grids (AtMessage entry)) (change_shown grids (AtMessage entry) next)
from_message parts grids entry (Stays pending) fits = tt
from_message parts grids entry (Undoes back) fits = λ other. anew parts back.entry fits
from_message parts grids entry (Goes (Playing next) history_change rows) fits = λ other. anew parts next.entry fits
from_message parts grids entry (Goes (Waiting next pending) history_change rows) fits =
    λ other. anew parts next.entry fits
from_message parts grids entry (Goes (AtMessage message) history_change rows) fits = tt
from_message parts grids entry (Goes (Ended ending) history_change rows) fits = tt

pub session_fits : (parts : SessionParts) (grids : List Grid) (location : Location Standing)
    (next : Change Standing (List Bool)) → AnswerFitsFrom parts location (Some next) →
    SessionFits parts (location_shown grids location) (change_shown grids location next)
session_fits parts grids (Playing level) next fits = from_level parts grids level next fits
session_fits parts grids (Waiting level pending) next fits = from_waiting next fits
  where
    from_waiting : (next : Change Standing (List Bool)) → ChangeFits parts level.entry next →
        SessionFits parts (location_shown grids (Waiting level pending)) (change_shown grids (Waiting level pending) next)
    from_waiting (Stays None) fits = λ other. absurd (other refl)
    from_waiting (Stays (Some other)) fits = λ other. absurd (other refl)
    from_waiting (Undoes back) fits = fits
    from_waiting (Goes (Playing next) history_change rows) fits = fits
    from_waiting (Goes (Waiting next waits) history_change rows) fits = fits
    from_waiting (Goes (AtMessage entry) history_change rows) fits = tt
    from_waiting (Goes (Ended ending) history_change rows) fits = tt
session_fits parts grids (AtMessage entry) next fits = from_message parts grids entry next fits
session_fits parts grids (Ended ending) next fits = from_end next fits
  where
    from_end : (next : Change Standing (List Bool)) → ((before : ℕ) → ChangeFits parts before next) →
        SessionFits parts (location_shown grids (Ended ending)) (change_shown grids (Ended ending) next)
    from_end (Stays pending) fits = tt
    from_end (Undoes back) fits = λ other. anew parts back.entry fits
    from_end (Goes (Playing next) history_change rows) fits = λ other. anew parts next.entry fits
    from_end (Goes (Waiting next pending) history_change rows) fits = λ other. anew parts next.entry fits
    from_end (Goes (AtMessage message) history_change rows) fits = tt
    from_end (Goes (Ended end) history_change rows) fits = tt

-- the same of a session and the one that came of it
pub fits_behind : (parts forgot : SessionParts) (grids : List Grid) (location : Location Standing)
    (found : Option (Change Standing (List Bool))) (next : Change Standing (List Bool)) (old now : model.Session) →
    forgot ≡ parts → found ≡ Some next → location_shown grids location ≡ old →
    now ≡ change_shown grids location next → AnswerFitsFrom forgot location found →
    SessionFits parts old now
fits_behind parts forgot grids location found next old now game is shown comes fits =
    let here : AnswerFitsFrom parts location (Some next) =
    subst (λ (g : SessionParts). AnswerFitsFrom g location (Some next)) game
    (subst (AnswerFitsFrom forgot location) is fits) in
    subst (λ (s : model.Session). SessionFits parts s now) shown
    (subst (λ (s : model.Session). SessionFits parts (location_shown grids location) s) (sym comes)
    (session_fits parts grids location next here))
