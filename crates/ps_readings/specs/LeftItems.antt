-- The items of the left of cells.
use Rattle.std.specs.Prelude.{List}
use Rattle.std.specs.List.{flat_map}
use Rattle.ps_model.specs.rules.SourceRules.{Item, CellPair}

abbrev pub left_of_cells : List CellPair → List Item
left_of_cells cells = flat_map (λ cell. cell.left) cells
