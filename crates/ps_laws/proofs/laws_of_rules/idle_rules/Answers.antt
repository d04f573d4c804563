use Rattle.ps_laws.proofs.alike.IdleRules.{attempt-nowhere, idle-fitting_none, idle-leaving_all}
use Rattle.ps_laws.proofs.laws_of_rules.idle_rules.Goals as goal

pub returns-clause-nowhere : goal.returns-clause-nowhere
returns-clause-nowhere c = attempt-nowhere

pub returns-clause-none : goal.returns-clause-none
returns-clause-none c = idle-fitting_none

pub returns-clause-leaving : goal.returns-clause-leaving
returns-clause-leaving c = idle-leaving_all
