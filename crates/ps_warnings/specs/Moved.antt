-- What rules move, and what they put where it wasn't. A rule moves what its right names after a movement word other than
-- `stationary`. It puts what the right of a cell names and its left doesn't.
use Rattle.std.specs.Prelude.{Bool, true, false, if◌then◌else◌, Option, Some, None, List, [], ◌∷◌}
use Rattle.std.specs.List.{filter_map, flat_map}
use Rattle.ps_model.specs.declared.rules.MovementWord.{MovementWord}
use Rattle.ps_model.specs.declared.rules.MovementWord.TheVariants.{Stationary}
use Rattle.ps_model.specs.names.Names.{Meaning}
use Rattle.ps_model.specs.rules.SourceRules.{Item, Is, No, CellPair, RuleLine}
use Rattle.ps_model.specs.meaning.Occurrences.{cells_of}
use Rattle.ps_model.specs.board.RulePrograms.{rule_in}
use Rattle.ps_warnings.specs.Brought.{brought_unless}
use Rattle.ps_warnings.specs.LeftNames.{is_in_cell}

-- a movement word, if there is one, moves what stands after it
abbrev pub is_move : Option MovementWord → Bool
is_move None = false
is_move (Some Stationary) = false
is_move (Some _) = true

-- the cells of all rules of lines
abbrev pub cells_in : List RuleLine → List CellPair
cells_in lines = flat_map cells_of (filter_map rule_in lines)

-- what is moved by a name with that movement word, and by an item on the right
abbrev pub moved_if : Bool → Meaning → List Meaning
moved_if moves meaning = if moves then meaning ∷ [] else []

abbrev pub moved_by_item : Item → List Meaning
moved_by_item (Is number word meaning) = moved_if (is_move word) meaning
moved_by_item (No meaning) = []

-- by a cell, and by cells
abbrev pub moved_by_cell : CellPair → List Meaning
moved_by_cell cell = flat_map moved_by_item cell.right

abbrev pub moved_by_cells : List CellPair → List Meaning
moved_by_cells cells = flat_map moved_by_cell cells

-- what is put by an item on the right of a cell, by the cell, and by cells
abbrev pub put_by_item : CellPair → Item → List Meaning
put_by_item cell (Is number word meaning) = brought_unless (is_in_cell meaning cell) meaning
put_by_item cell (No meaning) = []

abbrev pub put_by_cell : CellPair → List Meaning
put_by_cell cell = flat_map (put_by_item cell) cell.right

abbrev pub put_by_cells : List CellPair → List Meaning
put_by_cells cells = flat_map put_by_cell cells
