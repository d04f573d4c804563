use Rattle.ps_laws.proofs.masks.AgreeingPrograms.{compiled_program-same, compiled_program-runs}
use Rattle.ps_laws.proofs.laws_of_compiling.programs_compile.Goals as goal

pub returns-clause-alike : goal.returns-clause-alike
returns-clause-alike c = compiled_program-same

pub returns-clause-runs : goal.returns-clause-runs
returns-clause-runs c = compiled_program-runs
