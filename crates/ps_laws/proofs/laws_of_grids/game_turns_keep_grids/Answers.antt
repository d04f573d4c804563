use Rattle.ps_laws.proofs.grids.KeptTurns.{game_turn-keeps}
use Rattle.ps_laws.proofs.laws_of_grids.game_turns_keep_grids.Goals as goal

pub returns : goal.returns
returns c = game_turn-keeps
