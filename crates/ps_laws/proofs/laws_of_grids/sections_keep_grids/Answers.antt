use Rattle.ps_laws.proofs.grids.KeptRuns.{section_run-kept}
use Rattle.ps_laws.proofs.laws_of_grids.sections_keep_grids.Goals as goal

pub returns : goal.returns
returns c = section_run-kept
