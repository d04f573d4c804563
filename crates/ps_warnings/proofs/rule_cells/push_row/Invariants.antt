use Rattle.std.proofs.Common.{◌≡◌, ◌++◌, drop}
use Rattle.std.specs.List.{flat_map}
use Rattle.ps_rules.specs.RulesShown.{cell_list_shown, tree_row_shown}
use Rattle.ps_warnings.proofs.rule_cells.push_row.Given as goal

-- what is left comes to the whole
abbrev pub invariant-loop-part : goal.invariant-loop-part
invariant-loop-part l =
    cell_list_shown l.cells.items ++ flat_map (λ part. part) (tree_row_shown (drop l.part-index l.row))
    ≡ cell_list_shown l.initial.cells.items ++ flat_map (λ part. part) (tree_row_shown l.row)
