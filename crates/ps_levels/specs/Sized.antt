-- What holds of the levels that are read: their sides are those of a board, and their objects are the game's.
use Rattle.std.specs.Prelude.{ℕ, ◌≡◌, ◌<◌, ◌≤◌, ◌*◌, length, List, All, ⊤}
use Rattle.ps_model.specs.declared.pieces.ObjectId.{ObjectId}
use Rattle.ps_model.specs.declared.limits.TheConstants.{SIDE_LIMIT}
use Rattle.ps_model.specs.names.Names.{Names, object_count}
use Rattle.ps_model.specs.board.Levels.{Level}
use Rattle.ps_model.specs.session.LevelLines.{Entry, MessageEntry, LevelEntry}

-- every object of a cell is below the number
abbrev pub AreBelow : ℕ → List ObjectId → Type 0
AreBelow count objects = All (λ object. object.0 < count) objects

-- a level has a column and a row, no more than a board may have, and a cell for each column and row; and its objects
-- are the game's, if the game has any
pub record IsSized (names : Names) (level : Level) : Type 0 where
  pub some_column : 1 ≤ level.width
  pub columns : level.width ≤ SIDE_LIMIT
  pub some_row : 1 ≤ level.height
  pub rows : level.height ≤ SIDE_LIMIT
  pub cells : length level.cells ≡ level.width * level.height
  pub objects : 1 ≤ object_count names → All (AreBelow (object_count names)) level.cells

-- the same of an entry that is a level
abbrev pub IsSizedEntry : Names → Entry → Type 0
IsSizedEntry names (MessageEntry text) = ⊤
IsSizedEntry names (LevelEntry level) = IsSized names level

-- an entry that is a level has a column
abbrev pub HasColumn : Entry → Type 0
HasColumn (MessageEntry text) = ⊤
HasColumn (LevelEntry level) = 1 ≤ level.width
