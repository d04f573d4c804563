use Rattle.ps_game.proofs.ToldTexts.{first_is_told_first, none_of_games, told_are_faults}
use Rattle.ps_game.proofs.ToldLines.{each_line_is_told}
use Rattle.ps_game.proofs.laws.told_faults_are_faults.Goals as goal

pub returns : goal.returns
returns c = record {
  first = first_is_told_first;
  all = told_are_faults;
  games = none_of_games;
  lines = each_line_is_told;
}
