use Rattle.ps_stage.proofs.Results.{if_ok}
use Rattle.ps_model.specs.board.Turns.{Script}
use Rattle.ps_model.specs.session.StartSteps.{start_turns}
use Rattle.std.proofs.Common.{◌∙◌}
use Rattle.ps_stage.specs.Standings.{script_for}
use Rattle.ps_stage.proofs.ShownLevels.{start_told_of}
use Rattle.ps_stage.proofs.stage.Stage.start_turn.Goals as goal

pub returns-clause-told : goal.returns-clause-told
returns-clause-told g c =
    let plain = g.R.Rules.meant c.args.rules.now.plain in
    let late = g.R.Rules.meant c.args.rules.now.late in
    let script : Script = script_for g.B.Board.table_for c.args.self.now.game plain late in
    if_ok c.tell_start_outcome-told.result c.tell_start_outcome-told.ensures.told (λ told tells history.
    start_told_of g.B.Board.table_for c.args.self.now c.take_turn.new.self plain late c.args.level.now
    c.take_turn.new.level history c.in_ok-turned.turned c.in_ok-turned.ensures.turned.0 c.args.left
    c.in_ok-turned.ensures.stage c.in_ok-turned.ensures.turned.1 c.in_ok-turned.ensures.turned.2
    ∙ tells history script.plain script.late (start_turns script c.args.left))
