use Rattle.std.proofs.Common.{◌≡◌, drop}
use Rattle.std.specs.List.{list_any}
use Rattle.ps_model.specs.rules.RuleShapeFaults.{misses_name}
use Rattle.ps_rules.specs.Kinds.{parts_shown}
use Rattle.ps_rules.proofs.sides.some_misses_name.Given as goal

abbrev pub invariant-loop-cell : goal.invariant-loop-cell
invariant-loop-cell l = list_any misses_name (parts_shown (drop l.cell-index l.cells)) ≡ list_any misses_name
    (parts_shown l.cells)
