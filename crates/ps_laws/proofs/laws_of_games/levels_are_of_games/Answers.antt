use Rattle.ps_laws.proofs.texts.LevelsOfNames.{loaded-game, entries_read-game}
use Rattle.ps_laws.proofs.texts.GamesOfTexts.{game-entries, game-levels}
use Rattle.ps_laws.proofs.texts.LevelLimits.{game-levels-within}
use Rattle.ps_laws.proofs.laws_of_games.levels_are_of_games.Goals as goal

pub returns : goal.returns
returns c = record {
  loaded = loaded-game;
  read = entries_read-game;
  games = game-entries;
  grids =
      game-levels;
  limits = game-levels-within;
}
