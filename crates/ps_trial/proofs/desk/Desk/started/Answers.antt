use Rattle.std.proofs.Common.{◌∙◌, ap}
use Rattle.std.specs.Prelude.{Option}
use Rattle.ps_model.specs.board.Turns.{Script}
use Rattle.ps_trial.specs.declared.told.Pending.{Pending}
use Rattle.ps_trial.specs.declared.told.Told.{Told}
use Rattle.ps_trial.specs.SilentStarts.{all_start_turns}
use Rattle.ps_trial.specs.Told.{start_shown}
use Rattle.ps_trial.specs.Desks.{script_on}
use Rattle.ps_trial.proofs.Results.{if_ok}
use Rattle.ps_trial.proofs.desk.Desk.started.Goals as goal

pub returns-in-Ends-clause-came : goal.returns-in-Ends-clause-came
returns-in-Ends-clause-came g c =
    let script : Script = (script_on g.R.Rules c.args.self.now.basis c.args.rules.now) in
    c.start_told.ensures c.args.self.now.boards (all_start_turns script)
    ∙ ap (λ (told : Told (Option Pending)). start_shown told c.args.self.now.boards (all_start_turns script)) c.in-Ends.is

pub returns-in-GoesOn-clause-came : goal.returns-in-GoesOn-clause-came
returns-in-GoesOn-clause-came g c =
    let script : Script = (script_on g.R.Rules c.args.self.now.basis c.args.rules.now) in
    if_ok c.all_start_turns.result c.all_start_turns.ensures.came (λ waits comes.
    c.start_told.ensures c.args.self.now.boards (all_start_turns script)
    ∙ ap (λ (told : Told (Option Pending)). start_shown told c.args.self.now.boards (all_start_turns script)) c.in-GoesOn.is
    ∙ comes)
