use Rattle.ps_program.proofs.KeepingCells.{keeps-what-fits}
use Rattle.ps_program.proofs.keeping.keeping_cells.Goals as goal

pub returns : goal.returns
returns c = keeps-what-fits
