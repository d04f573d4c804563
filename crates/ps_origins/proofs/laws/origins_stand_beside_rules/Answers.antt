use Rattle.ps_origins.proofs.ProgramsInOrder.{stand_beside}
use Rattle.ps_origins.proofs.laws.origins_stand_beside_rules.Goals as goal

pub returns : goal.returns
returns c = stand_beside
