use Rattle.std.proofs.Common.{◌∙◌, ap, sym}
use Rattle.ps_model.specs.board.Turns.{Script}
use Rattle.ps_trial.specs.Desks.{Basis, script_on}
use Rattle.ps_trial.specs.SilentStarts.{Boards, start_step}
use Rattle.ps_trial.proofs.Leading.{leads_twice}
use Rattle.ps_trial.proofs.Results.{if_ok}
use Rattle.ps_trial.proofs.desk.Desk.restart.Goals as goal

pub returns-clause-came : goal.returns-clause-came
returns-clause-came g c =
    let script : Script = (script_on g.R.Rules c.args.self.now.basis c.args.rules.now) in
    if_ok c.start_step.result c.start_step.ensures.came (λ waits comes.
    ap (λ (b : Boards). start_step script b c.args.tells) (sym c.take_restart_board.ensures.boards)
    ∙ ap (λ (b : Basis). start_step (script_on g.R.Rules b c.args.rules.now) c.take_restart_board.new.self.boards
    c.args.tells) (sym c.take_restart_board.ensures.leads.basis)
    ∙ comes)

pub returns-clause-leads : goal.returns-clause-leads
returns-clause-leads g c =
    leads_twice c.args.self.now c.take_restart_board.new.self c.start_step.new.self c.take_restart_board.ensures.leads
    c.start_step.ensures.leads

pub returns-clause-script : goal.returns-clause-script
returns-clause-script g c =
    c.start_step.ensures.script
    ∙ ap (λ (b : Basis). script_on g.R.Rules b c.args.rules.now) c.take_restart_board.ensures.leads.basis
