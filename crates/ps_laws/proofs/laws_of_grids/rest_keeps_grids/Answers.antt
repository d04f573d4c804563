use Rattle.ps_laws.proofs.grids.KeptTurns.{at_rest-keeps}
use Rattle.ps_laws.proofs.laws_of_grids.rest_keeps_grids.Goals as goal

pub returns : goal.returns
returns c = at_rest-keeps
