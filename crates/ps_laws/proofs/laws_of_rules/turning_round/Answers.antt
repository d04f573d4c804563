use Rattle.ps_laws.proofs.alike.TurnedPlaces.{places-turned}
use Rattle.ps_laws.proofs.alike.TurnedAttempts.{attempt-turned, attempt-forwards}
use Rattle.ps_laws.proofs.alike.TurnedPrograms.{round-forwards, group-forwards, pass-forwards, looped-forwards}
use Rattle.ps_laws.proofs.alike.TurnedPrograms.{section_run-forwards, program_run-forwards}
use Rattle.ps_laws.proofs.laws_of_rules.turning_round.Goals as goal

pub returns-clause-places : goal.returns-clause-places
returns-clause-places c = places-turned

pub returns-clause-turned : goal.returns-clause-turned
returns-clause-turned c = attempt-turned

pub returns-clause-attempts : goal.returns-clause-attempts
returns-clause-attempts c = attempt-forwards

pub returns-clause-rounds : goal.returns-clause-rounds
returns-clause-rounds c = round-forwards

pub returns-clause-groups : goal.returns-clause-groups
returns-clause-groups c = group-forwards

pub returns-clause-passes : goal.returns-clause-passes
returns-clause-passes c = pass-forwards

pub returns-clause-loops : goal.returns-clause-loops
returns-clause-loops c = looped-forwards

pub returns-clause-sections : goal.returns-clause-sections
returns-clause-sections c = section_run-forwards

pub returns-clause-programs : goal.returns-clause-programs
returns-clause-programs c = program_run-forwards
