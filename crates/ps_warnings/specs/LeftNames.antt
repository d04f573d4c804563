-- Whether a name stands on the left of a rule.
use Rattle.std.specs.Prelude.{Bool, List}
use Rattle.std.specs.List.{list_any}
use Rattle.ps_model.specs.names.Names.{Meaning}
use Rattle.ps_model.specs.rules.SourceRules.{CellPair, SourceRule}
use Rattle.ps_model.specs.meaning.Occurrences.{names_it}

-- it stands on the left of a cell, of one of the cells of a part, and of one of the parts of a row
abbrev pub is_in_cell : Meaning → CellPair → Bool
is_in_cell meaning cell = list_any (names_it meaning) cell.left

abbrev pub is_in_part : Meaning → List CellPair → Bool
is_in_part meaning cells = list_any (is_in_cell meaning) cells

abbrev pub is_in_row : Meaning → List (List CellPair) → Bool
is_in_row meaning parts = list_any (is_in_part meaning) parts

-- it stands on the left of a rule
abbrev pub names_on_left : SourceRule → Meaning → Bool
names_on_left rule meaning = list_any (is_in_row meaning) rule.rows
