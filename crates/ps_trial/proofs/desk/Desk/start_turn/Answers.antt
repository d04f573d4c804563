use Rattle.std.proofs.Common.{◌∙◌, ap, sym}
use Rattle.ps_model.specs.board.Turns.{Script}
use Rattle.ps_turn.specs.States.{outcome_shown}
use Rattle.ps_trial.specs.SilentStarts.{Boards, start_turns}
use Rattle.ps_trial.specs.Told.{start_shown}
use Rattle.ps_trial.specs.Desks.{script_on}
use Rattle.ps_trial.proofs.Loops.{start_by_outcome}
use Rattle.ps_trial.proofs.desk.Desk.start_turn.Goals as goal

pub returns-clause-told : goal.returns-clause-told
returns-clause-told g c =
    let script : Script = (script_on g.R.Rules c.args.self.now.basis c.args.rules.now) in
    start_by_outcome script c.args.left c.args.self.now.boards
    (outcome_shown c.in_ok-turned.turned c.in_ok-turned.ensures.turned.0) _ c.in_ok-turned.ensures.turned.1
    (c.start_turn_told-told.ensures c.args.self.now.boards c.in_ok-turned.ensures.turned.0
    (start_turns script c.args.left)
    ∙ ap (λ (b : Boards). start_shown c.start_turn_told-told.result b (start_turns script c.args.left))
    (sym c.in_ok-turned.ensures.turned.2))
