-- A level that is played and a game that is played, as contracts see them.
use Rattle.std.specs.Prelude.{ℕ, if◌then◌else◌, List, Option}
use Rattle.ps_model.specs.declared.limits.TheConstants.{SIDE_LIMIT}
use Rattle.ps_model.specs.declared.options.Options.{Options}
use Rattle.ps_model.specs.declared.rooms.Room.{Room}
use Rattle.ps_model.specs.names.Names.{Names}
use Rattle.ps_model.specs.board.Grid.{Grid}
use Rattle.ps_model.specs.board.Programs.{Section}
use Rattle.ps_model.specs.board.Turns.{Script}
use Rattle.ps_model.specs.board.Wins.{Win}
use Rattle.ps_model.specs.session.LevelLines.{Entry}
use Rattle.ps_model.specs.session.Rooms.{room_after}
use Rattle.ps_model.specs.session.Sessions.{Play, Session}
use Rattle.ps_turn.specs.States.{TurnParts}
use Rattle.ps_turn.specs.declared.outcomes.DoneTurn.{DoneTurn}
use Rattle.ps_stage.specs.declared.sides.BoardSides.{BoardSides}

-- a game without its rules, which begins at one of its entries, and the levels that its boards are for
pub record SessionParts : Type 0 where
  pub title : List ℕ
  pub options : Options
  pub names : Names
  pub entries : List Entry
  pub first_entry : ℕ
  pub wins : List Win
  pub sides : BoardSides

-- that game, begun at an entry
abbrev pub begun_at : SessionParts → ℕ → SessionParts
begun_at parts entry = record {
  title = parts.title;
  options = parts.options;
  names = parts.names;
  entries = parts.entries;
  first_entry = entry;
  wins = parts.wins;
  sides = parts.sides;
}

-- that game, on boards for levels with such sides
abbrev pub on_boards : SessionParts → BoardSides → SessionParts
on_boards parts sides = record {
  title = parts.title;
  options = parts.options;
  names = parts.names;
  entries = parts.entries;
  first_entry = parts.first_entry;
  wins = parts.wins;
  sides = sides;
}

-- the sides of all levels
abbrev pub all_sides : BoardSides
all_sides = record { above = 0; most = SIDE_LIMIT }

-- that game with these programs
abbrev pub script_of : SessionParts → List Section → List Section → Script
script_of parts plain late = record {
  title = parts.title;
  options = parts.options;
  names = parts.names;
  plain = plain;
  late = late;
  entries = parts.entries;
  first_entry = parts.first_entry;
  wins = parts.wins;
}

-- that game with the programs that its rules are on its own boards, by the table that a board has for layers and by
-- what the rules are on boards of a table
abbrev pub script_for : (List ℕ → Option (List ℕ)) → SessionParts → (Option (List ℕ) → List Section) →
    (Option (List ℕ) → List Section) → Script
script_for table_for parts plain late = script_of parts (plain (table_for parts.names.layers))
    (late (table_for parts.names.layers))

-- what of it turns look at
abbrev pub turn_parts : SessionParts → TurnParts
turn_parts parts = record { names = parts.names; options = parts.options; wins = parts.wins }

-- what a level that is played rests on: the table of its boards, and the names that its frame is drawn by
pub record Basis : Type 0 where
  pub table : Option (List ℕ)
  pub names : Names

-- that of the levels of a game with these names, by the table that a board has for layers
abbrev pub basis_of : (List ℕ → Option (List ℕ)) → Names → Basis
basis_of table_for names = record { table = table_for names.layers; names = names }

-- a level that is played, without its history, and what it rests on
pub record Standing : Type 0 where
  pub entry : ℕ
  pub basis : Basis
  pub board : Grid
  pub restart_board : Grid
  pub room : Room

-- with this history
abbrev pub play_of : List Grid → Standing → Play
play_of history level = record {
  entry = level.entry;
  board = level.board;
  history = history;
  restart_board = level.restart_board;
  room = level.room;
}

-- the level with the room that its board's next frame shows
abbrev pub seen_level : SessionParts → Standing → Standing
seen_level parts level = record {
  entry = level.entry;
  basis = level.basis;
  board = level.board;
  restart_board = level.restart_board;
  room = room_after parts.options.flickscreen parts.names level.board level.room;
}

-- the level behind a done turn that came to this grid
abbrev pub with_done : Standing → DoneTurn → Grid → Standing
with_done level done g = record {
  entry = level.entry;
  basis = level.basis;
  board = g;
  restart_board = if done.checkpoint then g else level.restart_board;
  room = level.room;
}

-- a session and the game that it is of
pub record SessionValue : Type 0 where
  pub game : SessionParts
  pub session : Session

-- a game and the text on the side
pub record StageValue : Type 0 where
  pub game : SessionParts
  pub text : List ℕ
