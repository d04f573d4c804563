use Rattle.ps_laws.proofs.grids.KeptTurns.{turn-keeps}
use Rattle.ps_laws.proofs.laws_of_grids.turns_keep_grids.Goals as goal

pub returns : goal.returns
returns c = turn-keeps
