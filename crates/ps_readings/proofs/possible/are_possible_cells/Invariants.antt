use Rattle.std.proofs.Common.{◌≡◌, drop}
use Rattle.std.specs.List.{list_all}
use Rattle.ps_model.specs.meaning.ReadingMeanings.{is_possible_cell}
use Rattle.ps_rules.specs.RulesShown.{cell_list_shown}
use Rattle.ps_readings.specs.ReadingsShown.{reading_shown}
use Rattle.ps_readings.proofs.possible.are_possible_cells.Given as goal

abbrev pub invariant-loop-cell : goal.invariant-loop-cell
invariant-loop-cell l = list_all (is_possible_cell l.names l.occurrences (reading_shown l.reading))
    (cell_list_shown (drop l.cell-index l.cells)) ≡ list_all
    (is_possible_cell l.names l.occurrences (reading_shown l.reading)) (cell_list_shown l.cells)
