use Rattle.std.proofs.Common.{◌≡◌, ◌++◌, drop}
use Rattle.ps_rules.specs.RulesShown.{cell_list_shown, lines_shown}
use Rattle.ps_warnings.specs.Moved.{cells_in}
use Rattle.ps_warnings.proofs.rule_cells.cells_in.Given as goal

-- what is left comes to the whole
abbrev pub invariant-loop-line : goal.invariant-loop-line
invariant-loop-line l =
    cell_list_shown l.cells.items ++ cells_in (lines_shown (drop l.line-index l.line-items)) ≡ cells_in l.rules
