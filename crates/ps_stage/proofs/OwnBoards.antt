-- Levels that are where they were, or that boards are for.
use Rattle.std.proofs.Common.{◌≡◌, ◌∙◌, ℕ, true, ap}
use Rattle.ps_stage.specs.OwnBoards.{LocationFits, HasEntry, has_boards}
use Rattle.ps_stage.specs.Standings.{SessionParts, Standing}
use Rattle.ps_stage.specs.declared.locations.Location.{Location}
use Rattle.ps_stage.specs.declared.locations.Location.TheVariants.{Playing, Waiting, AtMessage, Ended}

-- a level of the entry before is where it was
pub stays_there : (parts : SessionParts) (before entry : ℕ) (location : Location Standing) → entry ≡ before →
    HasEntry entry location → LocationFits parts before location
stays_there parts before entry (Playing level) same is = λ other. absurd (other (is ∙ same))
stays_there parts before entry (Waiting level pending) same is = λ other. absurd (other (is ∙ same))
stays_there parts before entry (AtMessage message) same is = tt
stays_there parts before entry (Ended ending) same is = tt

-- the boards are for a level of an entry that they are for
pub fits_there : (parts : SessionParts) (before entry : ℕ) (location : Location Standing) →
    has_boards parts entry ≡ true → HasEntry entry location → LocationFits parts before location
fits_there parts before entry (Playing level) fits is = λ other. ap (has_boards parts) is ∙ fits
fits_there parts before entry (Waiting level pending) fits is = λ other. ap (has_boards parts) is ∙ fits
fits_there parts before entry (AtMessage message) fits is = tt
fits_there parts before entry (Ended ending) fits is = tt
