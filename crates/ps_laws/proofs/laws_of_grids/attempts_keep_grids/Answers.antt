use Rattle.ps_laws.proofs.grids.KeptAttempts.{attempt-keeps}
use Rattle.ps_laws.proofs.laws_of_grids.attempts_keep_grids.Goals as goal

pub returns : goal.returns
returns c = attempt-keeps
