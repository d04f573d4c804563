use Rattle.std.proofs.Common.{◌≡◌, ◌++◌, drop, map}
use Rattle.ps_model.specs.rules.RuleTree.{pair_of}
use Rattle.ps_rules.specs.CellsShown.{cell_parts_shown}
use Rattle.ps_rules.specs.RulesShown.{tree_row_shown}
use Rattle.ps_rules.proofs.parts.row_of_cells.Given as goal

abbrev pub invariant-loop-part : goal.invariant-loop-part
invariant-loop-part l =
    tree_row_shown l.made.items ++ map (map pair_of) (cell_parts_shown (drop l.part-index l.part-items)) ≡ map
    (map pair_of) (cell_parts_shown l.part-items)
