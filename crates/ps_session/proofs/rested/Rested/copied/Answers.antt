use Rattle.ps_session.proofs.Rests.{shown_without}
use Rattle.ps_session.specs.Histories.{grids_of}
use Rattle.ps_session.specs.RestedSessions.{boards_if}
use Rattle.ps_session.proofs.rested.Rested.copied.Goals as goal

pub location_again-requires : goal.location_again-requires
location_again-requires g c = rw (c.requires, ← c.self.view_is) c.self.invariant.0

pub returns-clause-session : goal.returns-clause-session
returns-clause-session g c =
    rw (← c.self.view_is, c.in_ok-location.ensures.again)
    (shown_without (grids_of (boards_if g.H.History.boards c.self.inside.history)) c.self.inside.location)
