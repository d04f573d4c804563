use Rattle.std.proofs.Common.{◌≡◌, ◌++◌, drop}
use Rattle.std.specs.List.{flat_map}
use Rattle.ps_model.specs.meaning.Occurrences.{cells_of}
use Rattle.ps_rules.specs.RulesShown.{tree_rows_shown, rule_shown, cell_list_shown}
use Rattle.ps_rules.proofs.tree_cells.cells_of.Given as goal

abbrev pub invariant-loop-row : goal.invariant-loop-row
invariant-loop-row l = cell_list_shown l.cells.items ++ flat_map (λ row.
    flat_map (λ part. part) row) (tree_rows_shown (drop l.row-index l.row-items)) ≡ cells_of (rule_shown l.rule)
