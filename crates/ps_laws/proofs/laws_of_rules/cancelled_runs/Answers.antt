use Rattle.ps_laws.proofs.grids.CancelledRuns.{sections_run-cancelled, program_run-cancelled}
use Rattle.ps_laws.proofs.laws_of_rules.cancelled_runs.Goals as goal

pub returns : goal.returns
returns c = record { sections = sections_run-cancelled; programs = program_run-cancelled }
