use Rattle.std.proofs.Common.{◌≡◌, ◌++◌, drop}
use Rattle.std.specs.List.{flat_map}
use Rattle.ps_rules.specs.RulesShown.{cell_list_shown, tree_rows_shown}
use Rattle.ps_warnings.proofs.rule_cells.push_rows.Given as goal

-- what is left comes to the whole
abbrev pub invariant-loop-row : goal.invariant-loop-row
invariant-loop-row l =
    cell_list_shown l.cells.items
    ++ flat_map (λ row. flat_map (λ part. part) row) (tree_rows_shown (drop l.row-index l.rows))
    ≡ cell_list_shown l.initial.cells.items ++ flat_map (λ row. flat_map (λ part. part) row) (tree_rows_shown l.rows)
