use Rattle.std.proofs.Common.{◌∙◌, ap}
use Rattle.ps_model.specs.declared.limits.TheConstants.{AGAIN_LIMIT}
use Rattle.ps_model.specs.board.Turns.{Script}
use Rattle.ps_model.specs.session.StartSteps.{start_told, all_start_turns}
use Rattle.ps_model.specs.session.Sessions.{Play}
use Rattle.std.specs.declared.ops.ControlFlow.{ControlFlow}
use Rattle.std.specs.Prelude.{⊤, Option}
use Rattle.ps_stage.specs.declared.locations.Pending.{Pending}
use Rattle.ps_stage.specs.Standings.{play_of, script_for}
use Rattle.ps_stage.specs.StepsShown.{told_step}
use Rattle.ps_stage.proofs.Results.{if_ok}
use Rattle.ps_stage.proofs.ShownLevels.{shown_first}
use Rattle.ps_stage.proofs.stage.Stage.started.Goals as goal

pub returns-in-Break-clause-came : goal.returns-in-Break-clause-came
returns-in-Break-clause-came g c history =
    let script : Script = script_for g.B.Board.table_for c.args.self.now.game (g.R.Rules.meant c.args.rules.now.plain)
    (g.R.Rules.meant c.args.rules.now.late) in
    let next : Play = play_of history c.show_level.new.level in
    shown_first script (play_of history c.args.level.now) next c.args.self.now.text c.show_level.new.self.text
    (λ (play : Play). start_told play c.args.message.now c.args.again AGAIN_LIMIT (all_start_turns script))
    (ap (play_of history) c.show_level.ensures.level)
    (c.in_ok-show_level.ensures.shown history script.plain script.late)
    ∙ c.in_ok-pending.ensures.told next (all_start_turns script)
    ∙ ap (λ (told : ControlFlow (Option Pending) ⊤). told_step told next c.tell_start.new.self.text (all_start_turns script)) c.in-Break.is

pub returns-in-Continue-clause-came : goal.returns-in-Continue-clause-came
returns-in-Continue-clause-came g c =
    if_ok c.all_start_turns.result c.all_start_turns.ensures.came (λ pending comes history.
    let script : Script = script_for g.B.Board.table_for c.args.self.now.game (g.R.Rules.meant c.args.rules.now.plain)
    (g.R.Rules.meant c.args.rules.now.late) in
    let next : Play = play_of history c.show_level.new.level in
    shown_first script (play_of history c.args.level.now) next c.args.self.now.text c.show_level.new.self.text
    (λ (play : Play). start_told play c.args.message.now c.args.again AGAIN_LIMIT (all_start_turns script))
    (ap (play_of history) c.show_level.ensures.level)
    (c.in_ok-show_level.ensures.shown history script.plain script.late)
    ∙ c.in_ok-pending.ensures.told next (all_start_turns script)
    ∙ ap (λ (told : ControlFlow (Option Pending) ⊤). told_step told next c.tell_start.new.self.text (all_start_turns script)) c.in-Continue.is
    ∙ rw (c.in_ok-pending.ensures.game, c.show_level.ensures.game) at (comes history))
