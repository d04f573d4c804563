use Rattle.ps_laws.proofs.grids.KeptRuns.{settled-kept}
use Rattle.ps_laws.proofs.laws_of_grids.settling_keeps_grids.Goals as goal

pub returns : goal.returns
returns c = settled-kept
