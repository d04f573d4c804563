use Rattle.std.proofs.Common.{◌∙◌, sym, ap, ℕ, subst}
use Rattle.ps_model.specs.board.Turns.{Script}
use Rattle.ps_model.specs.session.Sessions.{Session, after}
use Rattle.ps_model.specs.session.StartSteps.{start_step}
use Rattle.ps_stage.specs.Standings.{StageValue, play_of, script_for}
use Rattle.ps_stage.specs.StepsShown.{came}
use Rattle.ps_stage.proofs.Entered.{restarted_of}
use Rattle.ps_stage.specs.OwnBoards.{HasEntry}
use Rattle.ps_stage.proofs.stage.Stage.restart.Goals as goal

pub returns-in-Ok-start_step-clause-came : goal.returns-in-Ok-start_step-clause-came
returns-in-Ok-start_step-clause-came g c history =
    let table_for = g.B.Board.table_for in
    let plain = g.R.Rules.meant c.args.rules.now.plain in
    let late = g.R.Rules.meant c.args.rules.now.late in
    let script : Script = script_for table_for c.args.self.now.game plain late in
    ap (after c.args.self.now.text) (restarted_of script c.args.level.now c.in-Ok.again history c.args.message
    c.in-Ok.ensures.entry c.in-Ok.ensures.board c.in-Ok.ensures.restart_board c.in-Ok.ensures.room)
    ∙ ap (λ (stage : StageValue). after stage.text (start_step (script_for table_for stage.game plain late)
    (play_of history c.in-Ok.again) c.args.message)) (sym c.self.view_is)
    ∙ c.in-Ok-start_step.ensures.came history
    ∙ ap (λ (session : Session). came session c.start_step.new.self.text) (sym (c.located.ensures.shown history))

pub returns-in-Ok-start_step-clause-entry : goal.returns-in-Ok-start_step-clause-entry
returns-in-Ok-start_step-clause-entry g c =
    subst (λ (entry : ℕ). HasEntry entry c.located.result)
    (c.in-Ok-start_step.ensures.entry ∙ c.in-Ok.ensures.entry) c.located.ensures.entry
