use Rattle.std.proofs.Common.{◌≡◌}
use Rattle.std.proofs.lemmas.Result.{IfOk-weaker}
use Rattle.ps_command.specs.ArgumentTable.{rule_of_form}
use Rattle.ps_command.proofs.ArgumentsRead.{requires_other}
use Rattle.ps_command.proofs.argument_table.Argument.with_needs.Goals as goal

pub returns-in-Some : goal.returns-in-Some
returns-in-Some c = rw c.in-Some.is (IfOk-weaker c.requires_arg.result _ _
    (λ r adds. requires_other (rule_of_form c.args.self.now.name.now c.args.self.now.form) c.args.arg r _ adds
    c.requires)
    c.requires_arg.ensures)
