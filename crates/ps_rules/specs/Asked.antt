-- The commands that words ask for, with the text of their line.
use Rattle.std.specs.Prelude.{ℕ, List, Option, None, if◌then◌else◌}
use Rattle.ps_model.specs.rules.SourceRules as model
use Rattle.ps_rules.specs.declared.commands.Asked.{Asked}

abbrev pub asked_shown : Option (List ℕ) → Asked → model.Commands
asked_shown text asked = record {
  cancel = asked.cancel;
  restart = asked.restart;
  again = asked.again;
  checkpoint = asked.checkpoint;
  win = asked.win;
  message = if asked.message then text else None;
}
