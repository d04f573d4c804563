use Rattle.ps_laws.proofs.grids.KeptRuns.{sections_run-kept}
use Rattle.ps_laws.proofs.laws_of_grids.runs_keep_grids.Goals as goal

pub returns : goal.returns
returns c = sections_run-kept
