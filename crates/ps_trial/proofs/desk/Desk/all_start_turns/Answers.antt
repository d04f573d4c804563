use Rattle.std.proofs.Common.{◌∙◌}
use Rattle.ps_trial.specs.Desks.{script_on}
use Rattle.ps_trial.proofs.Loops.{all_starts}
use Rattle.ps_trial.proofs.Results.{if_ok}
use Rattle.ps_trial.proofs.desk.Desk.all_start_turns.Goals as goal

pub returns-clause-came : goal.returns-clause-came
returns-clause-came g c =
    if_ok c.start_turns.result c.start_turns.ensures.came (λ waits comes.
    all_starts (script_on g.R.Rules c.args.self.now.basis c.args.rules.now) c.args.self.now.boards c.again_limit-most.result c.again_limit-most.ensures
    ∙ comes)
