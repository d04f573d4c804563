use Rattle.std.proofs.Common.{◌∙◌, ◌++◌, ◌+◌, List, drop, ap}
use Rattle.std.specs.List.{flat_map}
use Rattle.std.proofs.lemmas.List.Concat.{flat_map-cons}
use Rattle.ps_model.specs.rules.SourceRules.{CellPair as Meant}
use Rattle.ps_model.specs.meaning.Occurrences.{cells_of}
use Rattle.ps_rules.specs.declared.tree.CellPair.{CellPair}
use Rattle.ps_rules.specs.RulesShown.{cell_list_shown, tree_row_shown, tree_rows_shown, rule_shown}
use Rattle.ps_names.proofs.common.Loops.{made-more}
use Rattle.ps_rules.proofs.tree_cells.cells_of.Goals as goal

pub loop-row-preserved : goal.loop-row-preserved
loop-row-preserved c =
    made-more (λ (rows : List (List (List CellPair))). flat_map (λ (row : List (List Meant)).
    flat_map (λ (part : List Meant). part) row) (tree_rows_shown rows)) (cell_list_shown c.loop-row.cells.items)
    (cell_list_shown c.push_row.new.cells.items)
    (flat_map (λ (part : List Meant). part) (tree_row_shown c.row-item.result)) (cells_of (rule_shown c.args.rule.now))
    c.as_slice-row-items.result.now c.loop-row.row-index c.row-item.result _
    (c.in_ok-push_row.ensures ∙ ap (λ (row : List (List CellPair)). cell_list_shown c.loop-row.cells.items
    ++ flat_map (λ (part : List Meant). part) (tree_row_shown row)) c.as_slice.ensures) c.loop-row-test.true
    c.row-item.is
    (flat_map-cons (λ (row : List (List Meant)). flat_map (λ (part : List Meant). part) row)
    (tree_row_shown c.row-item.result)
    (tree_rows_shown (drop (c.loop-row.row-index + 1) c.as_slice-row-items.result.now))) c.loop-row.invariant
