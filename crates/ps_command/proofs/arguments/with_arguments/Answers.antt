use Rattle.std.proofs.Common.{rules}
use Rattle.ps_command.specs.CommandLines.{bare_player}
use Rattle.ps_command.proofs.ArgumentsRead.{table_more, table_none}
use Rattle.ps_command.proofs.arguments.with_arguments.Goals as goal

pub loop-argument-init : goal.loop-argument-init
loop-argument-init c =
    table_none bare_player c.args.arguments.now c.bare_command-command.result c.bare_command-command.ensures

pub loop-argument-preserved : goal.loop-argument-preserved
loop-argument-preserved c =
    table_more bare_player c.args.arguments.now c.loop-argument.argument-index _ c.loop-argument.command
    c.in_ok-command.command _ (search rules) c.in_ok-command.ensures c.in_ok-built.ensures c.loop-argument.invariant
