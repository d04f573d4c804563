use Rattle.std.proofs.Common.{◌≡◌}
use Rattle.ps_command.specs.CommandLines.{player}
use Rattle.ps_command.proofs.arguments.player_command.Goals as goal

-- the rules of the table are those of the command line
pub returns : goal.returns
unfolding player
returns c = record { is = c.with_arguments.ensures }
