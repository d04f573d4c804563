use Rattle.ps_program.proofs.SettlingCells.{settles-at-once}
use Rattle.ps_program.proofs.writers.settling_cells.Goals as goal

pub returns : goal.returns
returns c = settles-at-once
