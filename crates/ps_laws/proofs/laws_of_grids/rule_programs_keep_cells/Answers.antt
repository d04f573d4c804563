use Rattle.ps_laws.proofs.grids.KeptRules.{program_of-keep}
use Rattle.ps_laws.proofs.laws_of_grids.rule_programs_keep_cells.Goals as goal

pub returns : goal.returns
returns c = program_of-keep
