use Rattle.ps_laws.proofs.masks.AgreeingCells.{compiled_cell-agrees, rule_by-same, compiled_rules-same}
use Rattle.ps_laws.proofs.laws_of_compiling.rules_compile.Goals as goal

pub returns-clause-cells : goal.returns-clause-cells
returns-clause-cells c = compiled_cell-agrees

pub returns-clause-readings : goal.returns-clause-readings
returns-clause-readings c = rule_by-same

pub returns-clause-rules : goal.returns-clause-rules
returns-clause-rules c = compiled_rules-same
