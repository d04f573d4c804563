use Rattle.std.proofs.Common.{[], refl}
use Rattle.ps_session.proofs.HistoryBoards.{none_on_table}
use Rattle.ps_session.proofs.Rests.{shown_without}
use Rattle.ps_session.specs.Histories.{grids_of}
use Rattle.ps_session.specs.RestedSessions.{boards_if}
use Rattle.ps_session.proofs.rested.Rested.without_history.Goals as goal

pub returns-clause-session : goal.returns-clause-session
returns-clause-session g c =
    rw (← c.self.view_is)
    (shown_without (grids_of (boards_if g.H.History.boards c.self.inside.history)) c.self.inside.location)

pub invariant_of-result : goal.invariant_of-result
invariant_of-result g c =
    (c.self.invariant.0, (none_on_table (g.B.Board.table_for c.self.inside.names.value.layers) [] refl, tt))
