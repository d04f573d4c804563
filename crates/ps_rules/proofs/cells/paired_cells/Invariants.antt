use Rattle.std.proofs.Common.{◌≡◌, ◌++◌, drop}
use Rattle.ps_model.specs.rules.RuleShape.{paired_cells, beside}
use Rattle.ps_rules.specs.Kinds.{parts_shown}
use Rattle.ps_rules.specs.CellsShown.{cells_shown}
use Rattle.ps_rules.proofs.cells.paired_cells.Given as goal

abbrev pub invariant-loop-words : goal.invariant-loop-words
invariant-loop-words l =
    cells_shown l.cells.items ++ beside (parts_shown (drop l.words-index l.left)) (parts_shown l.others) ≡ paired_cells
    (parts_shown l.left, parts_shown l.right)
