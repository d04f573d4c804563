use Rattle.ps_program.proofs.LeavingCells.{leaves-as-told}
use Rattle.ps_program.proofs.leaving.leaving_cells.Goals as goal

pub returns : goal.returns
returns c = leaves-as-told
