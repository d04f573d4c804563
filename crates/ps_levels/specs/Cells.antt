-- Rows and cells as the code keeps them.
use Rattle.std.specs.Prelude.{Bool, not, Option, is_some, option_map, unwrap_or, List, [], map, Vec}
use Rattle.std.specs.Global.{Global}
use Rattle.std.specs.Borrow.{Bor}
use Rattle.ps_model.specs.declared.pieces.ObjectId.{ObjectId}
use Rattle.ps_model.specs.names.Names as model
use Rattle.ps_model.specs.board.Levels.{shown_objects}
use Rattle.ps_names.specs.Shown.{meaning_shown}
use Rattle.ps_names.specs.declared.meaning.Meaning.{Meaning}

-- what a character stands for, by what the code finds
abbrev pub meaning_seen : Option (Bor Meaning) → Option model.Meaning
meaning_seen meaning = option_map (λ found. meaning_shown found.now) meaning

abbrev pub meanings_shown : List (Option (Bor Meaning)) → List (Option model.Meaning)
meanings_shown meanings = map meaning_seen meanings

-- a character stands for nothing
abbrev pub is_unknown : Option model.Meaning → Bool
is_unknown meaning = not (is_some meaning)

-- the objects of a cell whose character stands for this
abbrev pub objects_of : Option model.Meaning → List ObjectId
objects_of meaning = unwrap_or (shown_objects meaning) []

-- the cells of a row, and the rows, by what the code's parts hold
abbrev pub cells_shown : List (Bor (List ObjectId)) → List (List ObjectId)
cells_shown cells = map (λ cell. cell.now) cells

abbrev pub rows_shown : List (Vec (Bor (List ObjectId)) Global) → List (List (List ObjectId))
rows_shown rows = map (λ row. cells_shown row.items) rows
