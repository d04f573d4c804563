-- The commands of a rule of the code as those of the definitions.
use Rattle.ps_model.specs.rules.SourceRules as model
use Rattle.ps_program.specs.declared.commands.Commands.{Commands}

abbrev pub commands_shown : Commands → model.Commands
commands_shown commands = record {
  cancel = commands.cancel;
  restart = commands.restart;
  again = commands.again;
  checkpoint = commands.checkpoint;
  win = commands.win;
  message = commands.message;
}
