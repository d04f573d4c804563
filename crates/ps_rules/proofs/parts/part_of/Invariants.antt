use Rattle.std.proofs.Common.{◌≡◌, ◌++◌, drop, map}
use Rattle.ps_model.specs.rules.RuleTree.{pair_of}
use Rattle.ps_rules.specs.CellsShown.{cells_shown}
use Rattle.ps_rules.specs.RulesShown.{part_shown}
use Rattle.ps_rules.proofs.parts.part_of.Given as goal

abbrev pub invariant-loop-cell : goal.invariant-loop-cell
invariant-loop-cell l = part_shown l.made.items ++ map pair_of (cells_shown (drop l.cell-index l.cells)) ≡ map pair_of
    (cells_shown l.cells)
