use Rattle.std.proofs.Common.{◌≡◌, ◌∙◌, true, ap, rules}
use Rattle.ps_model.specs.board.Turns.{Script}
use Rattle.ps_model.specs.session.StartSteps.{start_told}
use Rattle.ps_model.specs.session.Sessions.{Play, after}
use Rattle.ps_stage.specs.Standings.{play_of, script_of}
use Rattle.ps_stage.proofs.Results.{if_ok}
use Rattle.ps_stage.proofs.ShownLevels.{shown_first, start_of}
use Rattle.ps_stage.proofs.stage.Stage.tell_start_turn.Goals as goal

pub returns-clause-told : goal.returns-clause-told
returns-clause-told g c =
    if_ok c.tell_start.result c.tell_start.ensures.told (λ told tells history plain late turns.
    let script : Script = script_of c.args.self.now.game plain late in
    let changed : c.args.done.now.changed ≡ true = search rules in
    ap (after c.args.self.now.text) (start_of script (play_of history c.args.level.now) c.args.done.now c.args.left
    turns changed)
    ∙ shown_first script (play_of history c.args.level.now) (play_of history c.show_level.new.level)
    c.args.self.now.text c.show_level.new.self.text
    (λ (play : Play). start_told play c.args.done.now.message c.args.done.now.again c.args.left turns)
    (ap (play_of history) c.show_level.ensures.level) (c.in_ok-show_level.ensures.shown history plain late)
    ∙ tells (play_of history c.show_level.new.level) turns)
