use Rattle.std.proofs.Common.{◌∙◌, ap}
use Rattle.ps_model.specs.board.Turns.{Script}
use Rattle.ps_model.specs.session.KeySteps.{key_told}
use Rattle.ps_model.specs.session.Sessions.{Play}
use Rattle.ps_turn.specs.States.{done_shown}
use Rattle.ps_stage.specs.Standings.{play_of, script_of}
use Rattle.ps_stage.proofs.Results.{if_ok}
use Rattle.ps_stage.proofs.ShownLevels.{shown_first}
use Rattle.ps_stage.proofs.stage.Stage.tell_key_turn.Goals as goal

pub returns-clause-told : goal.returns-clause-told
returns-clause-told g c =
    if_ok c.tell_key.result c.tell_key.ensures.told (λ told tells history plain late turns.
    let script : Script = script_of c.args.self.now.game plain late in
    shown_first script (play_of history c.args.level.now) (play_of history c.show_level.new.level) c.args.self.now.text
    c.show_level.new.self.text
    (λ (play : Play). key_told script play (done_shown c.args.done.now c.args.level.now.board) c.args.left turns)
    (ap (play_of history) c.show_level.ensures.level) (c.in_ok-show_level.ensures.shown history plain late)
    ∙ tells script (play_of history c.show_level.new.level) c.args.level.now.board turns)
