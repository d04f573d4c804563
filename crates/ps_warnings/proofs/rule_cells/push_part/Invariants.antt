use Rattle.std.proofs.Common.{◌≡◌, ◌++◌, drop}
use Rattle.ps_rules.specs.RulesShown.{cell_list_shown, part_shown}
use Rattle.ps_warnings.proofs.rule_cells.push_part.Given as goal

-- what is left comes to the whole
abbrev pub invariant-loop-cell : goal.invariant-loop-cell
invariant-loop-cell l =
    cell_list_shown l.cells.items ++ part_shown (drop l.cell-index l.part)
    ≡ cell_list_shown l.initial.cells.items ++ part_shown l.part
