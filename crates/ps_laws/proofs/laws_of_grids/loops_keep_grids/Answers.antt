use Rattle.ps_laws.proofs.grids.KeptRuns.{looped-kept}
use Rattle.ps_laws.proofs.laws_of_grids.loops_keep_grids.Goals as goal

pub returns : goal.returns
returns c = looped-kept
