use Rattle.ps_program.proofs.KeepingCells.{lets-sleep}
use Rattle.ps_program.proofs.keeping.sleeping_cells.Goals as goal

pub returns : goal.returns
returns c = lets-sleep
