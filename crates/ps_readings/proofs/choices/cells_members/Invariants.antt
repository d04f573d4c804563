use Rattle.std.proofs.Common.{◌≡◌, ◌++◌, drop}
use Rattle.std.specs.List.{filter_map}
use Rattle.ps_model.specs.meaning.Readings.{member_choices}
use Rattle.ps_rules.specs.RulesShown.{cell_list_shown}
use Rattle.ps_readings.specs.LeftItems.{left_of_cells}
use Rattle.ps_readings.proofs.choices.cells_members.Given as goal

abbrev pub invariant-loop-cell : goal.invariant-loop-cell
invariant-loop-cell l = l.lists.items ++ filter_map (member_choices l.names l.occurrences)
    (left_of_cells (cell_list_shown (drop l.cell-index l.cells))) ≡ filter_map (member_choices l.names l.occurrences)
    (left_of_cells (cell_list_shown l.cells))
