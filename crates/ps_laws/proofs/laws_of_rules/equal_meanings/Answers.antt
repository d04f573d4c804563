use Rattle.ps_laws.proofs.alike.EqualAttempts.{attempt-same}
use Rattle.ps_laws.proofs.alike.EqualPrograms.{round-same, group-same, pass-same, looped-same, section_run-same}
use Rattle.ps_laws.proofs.alike.EqualPrograms.{program_run-same}
use Rattle.ps_laws.proofs.laws_of_rules.equal_meanings.Goals as goal

pub returns-clause-attempts : goal.returns-clause-attempts
returns-clause-attempts c = attempt-same

pub returns-clause-rounds : goal.returns-clause-rounds
returns-clause-rounds c = round-same

pub returns-clause-groups : goal.returns-clause-groups
returns-clause-groups c = group-same

pub returns-clause-passes : goal.returns-clause-passes
returns-clause-passes c = pass-same

pub returns-clause-loops : goal.returns-clause-loops
returns-clause-loops c = looped-same

pub returns-clause-sections : goal.returns-clause-sections
returns-clause-sections c = section_run-same

pub returns-clause-programs : goal.returns-clause-programs
returns-clause-programs c = program_run-same
