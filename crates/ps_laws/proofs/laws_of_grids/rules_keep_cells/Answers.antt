use Rattle.ps_laws.proofs.grids.KeptCells.{meanings-keep}
use Rattle.ps_laws.proofs.laws_of_grids.rules_keep_cells.Goals as goal

pub returns : goal.returns
returns c = meanings-keep
