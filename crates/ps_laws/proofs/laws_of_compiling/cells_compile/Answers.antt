use Rattle.ps_laws.proofs.masks.FittingMasks.{masks-fit}
use Rattle.ps_laws.proofs.masks.RewritingWrites.{writes-rewrite}
use Rattle.ps_laws.proofs.masks.AgreeingCells.{cell_by-agrees}
use Rattle.ps_laws.proofs.laws_of_compiling.cells_compile.Goals as goal

pub returns-clause-masks : goal.returns-clause-masks
returns-clause-masks c = masks-fit

pub returns-clause-writes : goal.returns-clause-writes
returns-clause-writes c = writes-rewrite

pub returns-clause-cells : goal.returns-clause-cells
returns-clause-cells c = cell_by-agrees
