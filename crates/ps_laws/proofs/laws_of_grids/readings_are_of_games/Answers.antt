use Rattle.ps_laws.proofs.grids.KeptReadings.{readings-game}
use Rattle.ps_laws.proofs.laws_of_grids.readings_are_of_games.Goals as goal

pub returns : goal.returns
returns c = readings-game
