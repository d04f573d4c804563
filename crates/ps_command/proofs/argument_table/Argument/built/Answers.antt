use Rattle.std.proofs.lemmas.Result.{IfOk-weaker}
use Rattle.ps_command.specs.ArgumentTable.{rule_with_needs}
use Rattle.ps_command.proofs.ArgumentsRead.{conflicts_with}
use Rattle.ps_command.proofs.argument_table.Argument.built.Goals as goal

pub returns : goal.returns
returns c = IfOk-weaker c.conflicts_with_all.result _ _
    (λ r adds. conflicts_with (rule_with_needs c.args.self.now) c.in_ok-arg.arg r _ adds c.in_ok-arg.ensures)
    c.conflicts_with_all.ensures
