use Rattle.std.proofs.Common.{◌≡◌, ◌++◌, drop}
use Rattle.ps_rules.specs.RulesShown.{cell_list_shown}
use Rattle.ps_warnings.specs.MeaningsSeen.{meanings_seen}
use Rattle.ps_warnings.specs.Moved.{moved_by_cells}
use Rattle.ps_warnings.proofs.moved.moved_by.Given as goal

-- what is left comes to the whole
abbrev pub invariant-loop-cell : goal.invariant-loop-cell
invariant-loop-cell l =
    meanings_seen l.made.items ++ moved_by_cells (cell_list_shown (drop l.cell-index l.cells))
    ≡ moved_by_cells (cell_list_shown l.cells)
