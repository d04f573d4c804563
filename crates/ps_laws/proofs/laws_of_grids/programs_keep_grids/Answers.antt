use Rattle.ps_laws.proofs.grids.KeptRuns.{program_run-kept}
use Rattle.ps_laws.proofs.laws_of_grids.programs_keep_grids.Goals as goal

pub returns : goal.returns
returns c = program_run-kept
