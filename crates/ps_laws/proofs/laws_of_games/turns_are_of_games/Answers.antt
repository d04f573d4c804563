use Rattle.ps_laws.proofs.texts.GamesOfTexts.{game-turns}
use Rattle.ps_laws.proofs.laws_of_games.turns_are_of_games.Goals as goal

pub returns : goal.returns
returns c = game-turns
