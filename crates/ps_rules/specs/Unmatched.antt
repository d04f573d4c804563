-- Properties, by their legend lines, that stand on the right of a cell whose left lacks them.
use Rattle.std.specs.Prelude.{◌≡◌, ℕ, nat_eq, Bool, false, not, ◌&&◌, Option, Some, None, List, []}
use Rattle.std.specs.List.{list_any}
use Rattle.ps_model.specs.names.Names.{AnyOf}
use Rattle.ps_model.specs.meaning.Occurrences.{names_it}
use Rattle.ps_model.specs.rules.SourceRules.{Item, CellPair}

-- the line is one of the set
abbrev pub is_in : List ℕ → ℕ → Bool
is_in lines line = list_any (nat_eq line) lines

-- the line is that one, if there is one
abbrev pub is_line : Option ℕ → ℕ → Bool
is_line None line = false
is_line (Some other) line = nat_eq line other

-- one of the items names the property of the line
abbrev pub has_property : List Item → ℕ → Bool
has_property items line = list_any (names_it (AnyOf line [])) items

-- the right of the cell names the property of the line, and its left doesn't
abbrev pub is_unmatched : ℕ → CellPair → Bool
is_unmatched line cell = has_property cell.right line && not (has_property cell.left line)

-- the lines are those of the properties that are unmatched in one of the cells
abbrev pub AreUnmatched : List ℕ → List CellPair → Type 0
AreUnmatched lines cells = (line : ℕ) → is_in lines line ≡ list_any (is_unmatched line) cells
