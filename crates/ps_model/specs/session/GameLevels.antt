-- What levels of a game are: every object of a cell is one of the game's. There are as many cells as the sides say, and
-- the sides are within the limits.
use Rattle.std.specs.Prelude.{◌≡◌, ◌<◌, ◌≤◌, ◌*◌, List, All, length, ⊤}
use Rattle.ps_model.specs.declared.pieces.ObjectId.{ObjectId}
use Rattle.ps_model.specs.declared.limits.TheConstants.{SIDE_LIMIT}
use Rattle.ps_model.specs.names.Names.{Names, object_count}
use Rattle.ps_model.specs.board.Levels.{Level}
use Rattle.ps_model.specs.session.LevelLines.{Entry, MessageEntry, LevelEntry}

-- the objects of a cell are objects of the game
abbrev pub AreObjectsOf : Names → List ObjectId → Type 0
AreObjectsOf names objects = All (λ object. object.0 < object_count names) objects

-- a level of the game
pub record IsLevelOf (names : Names) (level : Level) : Type 0 where
  pub objects : All (AreObjectsOf names) level.cells
  pub shape : length level.cells ≡ level.width * level.height

-- an entry of LEVELS has a level of the game, or is a message
abbrev pub IsEntryOf : Names → Entry → Type 0
IsEntryOf names (MessageEntry text) = ⊤
IsEntryOf names (LevelEntry level) = IsLevelOf names level

-- a level with a row, no more rows than a board may have, and no more columns
pub record IsWithinLimits (level : Level) : Type 0 where
  pub columns : level.width ≤ SIDE_LIMIT
  pub some_row : 0 < level.height
  pub rows : level.height ≤ SIDE_LIMIT

-- an entry of LEVELS has such a level, or is a message
abbrev pub IsEntryWithinLimits : Entry → Type 0
IsEntryWithinLimits (MessageEntry text) = ⊤
IsEntryWithinLimits (LevelEntry level) = IsWithinLimits level
