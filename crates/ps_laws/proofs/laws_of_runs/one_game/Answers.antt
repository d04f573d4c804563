use Rattle.ps_laws.proofs.texts.OneGame.{at_most_one_game, fault_bars_game, faultless_is_game, game_is_faultless}
use Rattle.ps_laws.proofs.texts.OneGame.{game_or_fault, first_is_fault}
use Rattle.ps_laws.proofs.texts.HeldFaults.{hidden_are_behind}
use Rattle.ps_laws.proofs.laws_of_runs.one_game.Goals as goal

pub returns : goal.returns
returns c = record {
  at_most = at_most_one_game;
  barred = fault_bars_game;
  faultless = faultless_is_game;
  of_game =
      game_is_faultless;
  either = game_or_fault;
  first = first_is_fault;
  hidden = hidden_are_behind;
}
