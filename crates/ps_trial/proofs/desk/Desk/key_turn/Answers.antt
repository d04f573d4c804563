use Rattle.std.proofs.Common.{◌∙◌}
use Rattle.ps_model.specs.board.Turns.{Script}
use Rattle.ps_turn.specs.States.{outcome_shown}
use Rattle.ps_trial.specs.Desks.{script_on}
use Rattle.ps_trial.specs.SilentKeys.{key_turns}
use Rattle.ps_trial.proofs.Leading.{leads_twice}
use Rattle.ps_trial.proofs.Loops.{key_by_outcome}
use Rattle.ps_trial.proofs.Results.{if_ok}
use Rattle.ps_trial.proofs.desk.Desk.key_turn.Goals as goal

pub returns-clause-told : goal.returns-clause-told
returns-clause-told g c =
    let script : Script = (script_on g.R.Rules c.args.self.now.basis c.args.rules.now) in
    if_ok c.key_turn_told-told.result c.key_turn_told-told.ensures.told (λ told tells.
    key_by_outcome script (script_on g.R.Rules c.again_turn.new.self.basis c.again_turn.new.rules) c.args.left c.args.self.now.boards
    (outcome_shown c.in_ok-turned.turned c.in_ok-turned.ensures.turned.0) _
    c.again_turn.ensures.script c.in_ok-turned.ensures.turned.1
    (tells c.args.self.now.boards c.in_ok-turned.ensures.turned.0 (key_turns script c.args.left)
    c.in_ok-turned.ensures.turned.2))

pub returns-clause-leads : goal.returns-clause-leads
returns-clause-leads g c =
    leads_twice c.args.self.now c.again_turn.new.self c.key_turn_told-told.new.self c.again_turn.ensures.leads
    c.key_turn_told-told.ensures.leads

pub returns-clause-script : goal.returns-clause-script
returns-clause-script g c = c.key_turn_told-told.ensures.script ∙ c.again_turn.ensures.script
