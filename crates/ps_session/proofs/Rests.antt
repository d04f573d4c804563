-- Sessions at rest.
use Rattle.std.proofs.Common.{◌≡◌, List, [], refl}
use Rattle.ps_model.specs.board.Grid.{Grid}
use Rattle.ps_stage.specs.Locations.{location_shown}
use Rattle.ps_stage.specs.Standings.{Standing}
use Rattle.ps_stage.specs.declared.locations.Location.{Location}
use Rattle.ps_stage.specs.declared.locations.Location.TheVariants.{Playing, Waiting, AtMessage, Ended}
use Rattle.ps_session.specs.RestedSessions.{without_history}

-- a location with nothing to undo is that with a history, but for that
pub shown_without : (history : List Grid) (location : Location Standing) →
    location_shown [] location ≡ without_history (location_shown history location)
shown_without history (Playing level) = refl
shown_without history (Waiting level pending) = refl
shown_without history (AtMessage entry) = refl
shown_without history (Ended ending) = refl

-- levels are equal whose parts are
pub standing_same : (one other : Standing) → one.entry ≡ other.entry → one.basis ≡ other.basis →
    one.board ≡ other.board → one.restart_board ≡ other.restart_board → one.room ≡ other.room → one ≡ other
standing_same one other entry basis board restart_board room =
    rw (← entry, ← basis, ← board, ← restart_board, ← room) refl
