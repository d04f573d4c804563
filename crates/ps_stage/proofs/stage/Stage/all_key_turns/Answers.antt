use Rattle.std.proofs.Common.{◌∙◌, ap}
use Rattle.ps_model.specs.board.Turns.{Script}
use Rattle.ps_model.specs.session.Sessions.{after}
use Rattle.ps_stage.specs.Standings.{script_for, play_of}
use Rattle.ps_stage.proofs.AgainTurns.{all_keys}
use Rattle.ps_stage.proofs.Results.{if_ok}
use Rattle.ps_stage.proofs.stage.Stage.all_key_turns.Goals as goal

pub returns-clause-came : goal.returns-clause-came
returns-clause-came g c =
    if_ok c.key_turns.result c.key_turns.ensures.came (λ value comes history.
    let script : Script = script_for g.B.Board.table_for c.args.self.now.game (g.R.Rules.meant c.args.rules.now.plain)
    (g.R.Rules.meant c.args.rules.now.late) in
    ap (after c.args.self.now.text) (all_keys script (play_of history c.args.level.now) c.again_limit-most.result
    c.again_limit-most.ensures)
    ∙ comes history)
