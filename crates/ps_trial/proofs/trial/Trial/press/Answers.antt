use Rattle.std.proofs.Common.{◌∙◌}
use Rattle.ps_trial.specs.Desks.{script_on}
use Rattle.ps_trial.specs.Told.{waits_shown}
use Rattle.ps_trial.proofs.Results.{if_ok}
use Rattle.ps_trial.proofs.SameTurns.{spots_of_input}
use Rattle.ps_trial.proofs.trial.Trial.press.Goals as goal

pub returns-clause-led : goal.returns-clause-led
returns-clause-led g c =
    if_ok c.press_at.result c.press_at.ensures.came (λ pressed comes script entry plays.
    spots_of_input script (script_on g.R.Rules c.args.self.now.basis c.args.rules.now) plays entry c.args.self.now.here
    (waits_shown c.args.waits) c.args.input
    ∙ comes)
