use Rattle.std.proofs.Common.{◌≡◌, map, take}
use Rattle.clap.specs.Words.{app_of}
use Rattle.ps_command.specs.ArgumentTable.{rule_for}
use Rattle.ps_command.specs.CommandLines.{bare_player, with_rules}
use Rattle.ps_command.proofs.arguments.with_arguments.Given as goal

-- the command has the arguments that were passed
abbrev pub invariant-loop-argument : goal.invariant-loop-argument
invariant-loop-argument l =
    app_of l.command ≡ with_rules bare_player (map rule_for (take l.argument-index l.arguments))
