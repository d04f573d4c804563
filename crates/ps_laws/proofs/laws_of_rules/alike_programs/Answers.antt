use Rattle.ps_laws.proofs.alike.AlikePrograms.{group-alike, pass-alike, looped-alike, section_run-alike}
use Rattle.ps_laws.proofs.alike.AlikePrograms.{program_run-alike}
use Rattle.ps_laws.proofs.laws_of_rules.alike_programs.Goals as goal

pub returns-clause-groups : goal.returns-clause-groups
returns-clause-groups c = group-alike

pub returns-clause-passes : goal.returns-clause-passes
returns-clause-passes c = pass-alike

pub returns-clause-loops : goal.returns-clause-loops
returns-clause-loops c = looped-alike

pub returns-clause-sections : goal.returns-clause-sections
returns-clause-sections c = section_run-alike

pub returns-clause-programs : goal.returns-clause-programs
returns-clause-programs c = program_run-alike
