use Rattle.std.proofs.Common.{◌∙◌}
use Rattle.ps_trial.specs.Desks.{script_on}
use Rattle.ps_trial.proofs.Loops.{all_keys}
use Rattle.ps_trial.proofs.Results.{if_ok}
use Rattle.ps_trial.proofs.desk.Desk.all_key_turns.Goals as goal

pub returns-clause-came : goal.returns-clause-came
returns-clause-came g c =
    if_ok c.key_turns.result c.key_turns.ensures.came (λ came comes.
    all_keys (script_on g.R.Rules c.args.self.now.basis c.args.rules.now) c.args.self.now.boards c.again_limit-most.result c.again_limit-most.ensures
    ∙ comes)
