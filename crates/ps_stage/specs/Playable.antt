-- What playing needs of a level and of a game: the sides of levels are those of a board, for which the words of its
-- sets have room, and their objects are the game's, which has some.
use Rattle.std.specs.Prelude.{ℕ, ◌≤◌, ◌<◌, List, Option, All, ⊤}
use Rattle.ps_model.specs.declared.pieces.ObjectId.{ObjectId}
use Rattle.ps_model.specs.names.Names.{Names, layer_of, object_count}
use Rattle.ps_model.specs.names.NameBounds.{AreBounded}
use Rattle.ps_model.specs.board.Levels.{Level}
use Rattle.ps_model.specs.session.LevelLines.{Entry, LevelEntry, MessageEntry}
use Rattle.ps_levels.specs.Sized.{IsSized, IsSizedEntry}
use Rattle.ps_board.specs.Rooms.{HasRoom}

pub record IsPlayable (names : Names) (level : Level) : Type 0 where
  pub bounded : AreBounded names
  pub some_object : 1 ≤ object_count names
  pub sized : IsSized names level

pub record ArePlayable (names : Names) (entries : List Entry) : Type 0 where
  pub bounded : AreBounded names
  pub some_object : 1 ≤ object_count names
  pub sized : All (IsSizedEntry names) entries

-- the sides of a level are no longer than that
pub record LevelFits (side : ℕ) (level : Level) : Type 0 where
  pub columns : level.width ≤ side
  pub rows : level.height ≤ side

-- so are those of an entry that is a level, and of all entries
abbrev pub EntryFits : ℕ → Entry → Type 0
EntryFits side (MessageEntry text) = ⊤
EntryFits side (LevelEntry level) = LevelFits side level

abbrev pub EntriesFit : ℕ → List Entry → Type 0
EntriesFit side entries = All (EntryFits side) entries

-- each object of the game may stand on its own layer
abbrev pub HaveOwnRoom : Option (List ℕ) → Names → Type 0
HaveOwnRoom table names = (object : ObjectId) → object.0 < object_count names →
    HasRoom table object (layer_of names object)
