use Rattle.ps_laws.proofs.grids.KeptCells.{cell_meaning-keeps}
use Rattle.ps_laws.proofs.laws_of_grids.rule_cells_keep_cells.Goals as goal

pub returns : goal.returns
returns c = cell_meaning-keeps
