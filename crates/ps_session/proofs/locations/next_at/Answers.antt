use Rattle.std.proofs.Common.{sym, subst}
use Rattle.ps_stage.specs.Standings.{Standing}
use Rattle.ps_stage.specs.declared.locations.Location.{Location}
use Rattle.ps_session.specs.Histories.{grids_of}
use Rattle.ps_session.specs.KeyAnswers.{Answers}
use Rattle.ps_session.proofs.locations.next_at.Goals as goal

pub returns-in-Waiting-clause-answers : goal.returns-in-Waiting-clause-answers
returns-in-Waiting-clause-answers g c =
    let grids = grids_of (g.H.History.boards c.args.history.now) in
    subst (λ (here : Location Standing). Answers g.B.Board g.R.Rules c.args.stage.now.game c.args.rules.now grids here
    c.args.key c.key_at_level_message.result c.key_at_level_message.new.stage.text) (sym c.in-Waiting.is)
    (c.key_at_level_message.ensures.answers grids)

pub returns-in-AtMessage-clause-answers : goal.returns-in-AtMessage-clause-answers
returns-in-AtMessage-clause-answers g c =
    let grids = grids_of (g.H.History.boards c.args.history.now) in
    subst (λ (here : Location Standing). Answers g.B.Board g.R.Rules c.args.stage.now.game c.args.rules.now grids here
    c.args.key c.key_at_entry.result c.key_at_entry.new.stage.text) (sym c.in-AtMessage.is)
    (c.key_at_entry.ensures.answers grids)
