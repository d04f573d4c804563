use Rattle.std.proofs.Common.{◌≡◌, drop}
use Rattle.std.specs.List.{list_all}
use Rattle.ps_model.specs.meaning.Readings.{is_steady}
use Rattle.ps_rules.specs.RulesShown.{cell_list_shown}
use Rattle.ps_readings.proofs.directions.are_steady.Given as goal

abbrev pub invariant-loop-cell : goal.invariant-loop-cell
invariant-loop-cell l = list_all is_steady (cell_list_shown (drop l.cell-index l.cells)) ≡ list_all is_steady
    (cell_list_shown l.cells)
