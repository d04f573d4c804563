use Rattle.ps_laws.proofs.grids.KeptRuns.{group-kept}
use Rattle.ps_laws.proofs.laws_of_grids.groups_keep_grids.Goals as goal

pub returns : goal.returns
returns c = group-kept
