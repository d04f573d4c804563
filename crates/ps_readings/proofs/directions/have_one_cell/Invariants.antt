use Rattle.std.proofs.Common.{◌≡◌, drop}
use Rattle.std.specs.List.{list_all}
use Rattle.ps_model.specs.meaning.Readings.{is_one_cell}
use Rattle.ps_rules.specs.RulesShown.{tree_rows_shown}
use Rattle.ps_readings.proofs.directions.have_one_cell.Given as goal

abbrev pub invariant-loop-row : goal.invariant-loop-row
invariant-loop-row l = list_all is_one_cell (tree_rows_shown (drop l.row-index l.rows)) ≡ list_all is_one_cell
    (tree_rows_shown l.rows)
