use Rattle.std.proofs.Common.{◌∙◌, ap}
use Rattle.ps_model.specs.board.Turns.{Script}
use Rattle.ps_model.specs.session.KeySteps.{key_turns}
use Rattle.ps_stage.specs.KeysShown.{key_told_step}
use Rattle.ps_stage.specs.Standings.{StageValue, play_of, script_for, script_of}
use Rattle.ps_stage.proofs.KeyTurns.{key_told_of}
use Rattle.ps_stage.proofs.Results.{if_ok}
use Rattle.ps_stage.proofs.stage.Stage.key_turn.Goals as goal

pub returns-clause-told : goal.returns-clause-told
returns-clause-told g c =
    let plain = g.R.Rules.meant c.args.rules.now.plain in
    let late = g.R.Rules.meant c.args.rules.now.late in
    let script : Script = script_for g.B.Board.table_for c.args.self.now.game plain late in
    if_ok c.tell_key_outcome.result c.tell_key_outcome.ensures.told (λ told tells history.
    key_told_of g.B.Board.table_for c.args.self.now c.take_turn.new.self plain late c.args.level.now
    c.take_turn.new.level history c.in_ok-turned.turned c.in_ok-turned.ensures.turned.0 c.args.left
    c.in_ok-turned.ensures.stage c.in_ok-turned.ensures.turned.1 c.in_ok-turned.ensures.turned.2
    ∙ tells history script.plain script.late (key_turns script c.args.left)
    ∙ ap (λ (stage : StageValue). key_told_step (script_of stage.game script.plain script.late) told
    (play_of history c.tell_key_outcome.new.level) c.tell_key_outcome.new.self.text (key_turns script c.args.left))
    c.in_ok-turned.ensures.stage)
