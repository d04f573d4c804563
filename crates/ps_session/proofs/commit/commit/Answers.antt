use Rattle.std.proofs.Common.{List, ap, subst}
use Rattle.ps_model.specs.board.Grid.{Grid}
use Rattle.ps_model.specs.session.Sessions.{Playing}
use Rattle.ps_stage.specs.Standings.{play_of}
use Rattle.ps_session.specs.KeyAnswers.{GoesFromThere}
use Rattle.ps_session.specs.Histories.{grids_of}
use Rattle.ps_session.proofs.Behind.{behind_gone, behind_stood}
use Rattle.ps_session.proofs.HistoryBoards.{before_on_table, grids-before}
use Rattle.ps_session.proofs.commit.commit.Goals as goal

pub returns-in-Stays-clause-location : goal.returns-in-Stays-clause-location
returns-in-Stays-clause-location g c = λ basis here comes.
    c.stood.ensures.basis basis (rw c.replace-before.ensures.value here)

pub returns-in-Undoes-clause-shown : goal.returns-in-Undoes-clause-shown
returns-in-Undoes-clause-shown g c =
    rw (c.in-Undoes.is, c.replace-before-in-Undoes.ensures.after, c.go_back.ensures)
    (ap (λ (history : List Grid). Playing (play_of history c.in-Undoes.level))
    (grids-before (g.H.History.boards c.args.history.now)))

pub returns-in-Undoes-clause-boards : goal.returns-in-Undoes-clause-boards
returns-in-Undoes-clause-boards g c = λ basis boards here.
    rw c.go_back.ensures (before_on_table basis.table (g.H.History.boards c.args.history.now) boards)

pub returns-in-Goes-clause-boards : goal.returns-in-Goes-clause-boards
returns-in-Goes-clause-boards g c = λ basis boards here.
    c.leave.ensures.boards basis boards (rw c.replace-before-in-Goes.ensures.value here)

pub returns-in-Stays-clause-behind : goal.returns-in-Stays-clause-behind
returns-in-Stays-clause-behind g c =
    behind_stood (grids_of (g.H.History.boards c.args.history.now)) c.args.location.now c.stood.result
    c.args.behind.now (λ rows before here. c.stood.ensures.touched rows before
    (rw c.replace-before.ensures.value here)) c.requires.behind

pub returns-in-Goes-clause-behind : goal.returns-in-Goes-clause-behind
returns-in-Goes-clause-behind g c =
    let gone = behind_gone (grids_of (g.H.History.boards c.args.history.now)) c.args.location.now c.in-Goes.next
    c.in-Goes.history_change c.args.behind.now c.in-Goes.rows c.requires.behind
    (subst (GoesFromThere c.args.location.now) c.in-Goes.is c.requires.touched) in
    rw (
      c.leave.ensures.shown,
      c.leave.ensures.next,
      c.replace-before-in-Goes.ensures.value,
      c.replace-before-in-Goes.ensures.after,
      c.behind_next.ensures,
    ) gone
