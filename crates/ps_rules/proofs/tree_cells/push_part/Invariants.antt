use Rattle.std.proofs.Common.{◌≡◌, ◌++◌, drop}
use Rattle.ps_rules.specs.RulesShown.{part_shown, cell_list_shown}
use Rattle.ps_rules.proofs.tree_cells.push_part.Given as goal

abbrev pub invariant-loop-cell : goal.invariant-loop-cell
invariant-loop-cell l = cell_list_shown l.cells.items ++ part_shown (drop l.cell-index l.part) ≡ cell_list_shown
    l.initial.cells.items ++ part_shown l.part
