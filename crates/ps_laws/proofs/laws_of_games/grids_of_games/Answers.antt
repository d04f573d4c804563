use Rattle.ps_laws.proofs.texts.GamesOfTexts.{game-grids}
use Rattle.ps_laws.proofs.laws_of_games.grids_of_games.Goals as goal

pub returns : goal.returns
returns c = game-grids
