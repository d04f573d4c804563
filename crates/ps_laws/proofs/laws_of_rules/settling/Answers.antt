use Rattle.ps_laws.proofs.alike.SettledGroups.{group-settles}
use Rattle.ps_laws.proofs.alike.PassedLoops.{looped-passes}
use Rattle.ps_laws.proofs.laws_of_rules.settling.Goals as goal

pub returns-clause-groups : goal.returns-clause-groups
returns-clause-groups c = group-settles

pub returns-clause-loops : goal.returns-clause-loops
returns-clause-loops c = looped-passes
