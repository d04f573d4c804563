use Rattle.ps_laws.proofs.grids.KeptRuns.{pass-kept}
use Rattle.ps_laws.proofs.laws_of_grids.passes_keep_grids.Goals as goal

pub returns : goal.returns
returns c = pass-kept
