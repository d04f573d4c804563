use Rattle.ps_laws.proofs.grids.KeptRuns.{round-kept}
use Rattle.ps_laws.proofs.laws_of_grids.rounds_keep_grids.Goals as goal

pub returns : goal.returns
returns c = round-kept
