use Rattle.std.proofs.Common.{◌∙◌, [], ◌++◌, None, sym, ap, ℕ, subst}
use Rattle.std.specs.Fmt.{decimal}
use Rattle.std.specs.Prelude.{codes}
use Rattle.ps_model.specs.board.Levels.{loaded}
use Rattle.ps_model.specs.board.Turns.{Script}
use Rattle.ps_model.specs.names.Names.{Names}
use Rattle.ps_model.specs.session.Frames.{written_line}
use Rattle.ps_model.specs.session.Sessions.{Session, after}
use Rattle.ps_model.specs.session.StartSteps.{start_step}
use Rattle.ps_stage.specs.Standings.{StageValue, basis_of, play_of, script_for}
use Rattle.ps_stage.specs.StepsShown.{came}
use Rattle.ps_stage.proofs.Entered.{level_entered}
use Rattle.ps_stage.specs.OwnBoards.{HasEntry}
use Rattle.ps_stage.proofs.stage.Stage.enter_level.Goals as goal

pub returns-clause-basis : goal.returns-clause-basis
returns-clause-basis g c =
    c.located.ensures.basis _
    (c.in_ok-pending.ensures.basis
    ∙ c.in_ok-played.ensures.basis
    ∙ ap (basis_of g.B.Board.table_for) c.self.invariant.0
    ∙ ap (λ (stage : StageValue). basis_of g.B.Board.table_for stage.game.names) c.self.view_is)

pub returns-clause-came : goal.returns-clause-came
returns-clause-came g c =
    let table_for = g.B.Board.table_for in
    let plain = g.R.Rules.meant c.args.rules.now.plain in
    let late = g.R.Rules.meant c.args.rules.now.late in
    let script : Script = script_for table_for c.args.self.now.game plain late in
    let named = ap (λ (names : Names). loaded names c.args.level.now) c.self.invariant.0
    ∙ ap (λ (stage : StageValue). loaded stage.game.names c.args.level.now) c.self.view_is in
    level_entered script c.args.entry c.args.number c.args.level.now c.in_ok-played.played c.args.self.now.text
    c.add_level.new.self c.requires.number
    (c.in_ok-add_level.ensures.added
    ∙ ap (λ (stage : StageValue). stage.text ++ written_line (codes "# level ") (decimal c.args.number))
    c.self.view_is)
    c.in_ok-played.ensures.entry (c.in_ok-played.ensures.board ∙ named) (c.in_ok-played.ensures.restart_board ∙ named)
    c.in_ok-played.ensures.room
    ∙ ap (λ (stage : StageValue). after c.add_level.new.self (start_step (script_for table_for stage.game plain late)
    (play_of [] c.in_ok-played.played) None)) (sym c.self.view_is)
    ∙ c.in_ok-pending.ensures.came []
    ∙ ap (λ (session : Session). came session c.start_step.new.self.text) (sym (c.located.ensures.shown []))

pub returns-clause-entry : goal.returns-clause-entry
returns-clause-entry g c =
    subst (λ (entry : ℕ). HasEntry entry c.located.result)
    (c.in_ok-pending.ensures.entry ∙ c.in_ok-played.ensures.entry) c.located.ensures.entry
