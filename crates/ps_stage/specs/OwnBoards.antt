-- Whether the boards that a game is played on are for the levels that steps lead to.
use Rattle.std.specs.Prelude.{◌≡◌, ◌≢◌, ⊤, ℕ, Bool, true, false, List}
use Rattle.ps_stage.specs.Sides.{has_side, side_at}
use Rattle.ps_stage.specs.Standings.{SessionParts, Standing}
use Rattle.ps_stage.specs.declared.stops.Stop.{Stop}
use Rattle.ps_stage.specs.declared.stops.Stop.TheVariants.{Memory, Elsewhere}
use Rattle.ps_stage.specs.declared.locations.Change.{Change}
use Rattle.ps_stage.specs.declared.locations.Change.TheVariants.{Stays, Undoes, Goes}
use Rattle.ps_stage.specs.declared.locations.Location.{Location}
use Rattle.ps_stage.specs.declared.locations.Location.TheVariants.{Playing, Waiting, AtMessage, Ended}

-- the boards are for an entry: it is no level, or one whose longer side they are for
abbrev pub has_boards : SessionParts → ℕ → Bool
has_boards parts entry = has_side parts.sides (side_at parts.entries entry)

-- a step that stops elsewhere stops at an entry for which they aren't
abbrev pub IsForOthers : SessionParts → Stop → Type 0
IsForOthers parts Memory = ⊤
IsForOthers parts (Elsewhere entry) = has_boards parts entry ≡ false

-- a level has the entry before, or one for which they are
abbrev pub StaysOrFits : SessionParts → ℕ → ℕ → Type 0
StaysOrFits parts before entry = entry ≢ before → has_boards parts entry ≡ true

-- so has that of a location, if there is one
abbrev pub LocationFits : SessionParts → ℕ → Location Standing → Type 0
LocationFits parts before (Playing level) = StaysOrFits parts before level.entry
LocationFits parts before (Waiting level pending) = StaysOrFits parts before level.entry
LocationFits parts before (AtMessage entry) = ⊤
LocationFits parts before (Ended ending) = ⊤

-- and that of where a change goes
abbrev pub ChangeFits : SessionParts → ℕ → Change Standing (List Bool) → Type 0
ChangeFits parts before (Stays pending) = ⊤
ChangeFits parts before (Undoes level) = StaysOrFits parts before level.entry
ChangeFits parts before (Goes location history_change rows) = LocationFits parts before location

-- the level of a location, if there is one, has this entry
abbrev pub HasEntry : ℕ → Location Standing → Type 0
HasEntry entry (Playing level) = level.entry ≡ entry
HasEntry entry (Waiting level pending) = level.entry ≡ entry
HasEntry entry (AtMessage message) = ⊤
HasEntry entry (Ended ending) = ⊤
