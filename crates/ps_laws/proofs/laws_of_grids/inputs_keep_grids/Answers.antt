use Rattle.ps_laws.proofs.grids.KeptTurns.{with_input-keeps}
use Rattle.ps_laws.proofs.laws_of_grids.inputs_keep_grids.Goals as goal

pub returns : goal.returns
returns c = with_input-keeps
