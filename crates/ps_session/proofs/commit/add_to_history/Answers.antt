use Rattle.std.proofs.Common.{◌∙◌, ap}
use Rattle.ps_stage.specs.Standings.{Basis}
use Rattle.ps_session.specs.Histories.{grids_of}
use Rattle.ps_session.proofs.HistoryBoards.{grids-kept, kept_on_table}
use Rattle.ps_session.proofs.commit.add_to_history.Goals as goal

pub returns-clause-shown : goal.returns-clause-shown
returns-clause-shown g c = ap grids_of (c.enter.ensures _ c.requires.ready)
    ∙ grids-kept (g.H.History.boards c.args.history.now) _

pub returns-clause-boards : goal.returns-clause-boards
returns-clause-boards g c = λ basis on own.
    rw (c.enter.ensures _ c.requires.ready) (kept_on_table basis.table (g.H.History.boards c.args.history.now) _ on
    (ap (λ (own : Basis). own.table) own))
