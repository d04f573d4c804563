-- What every game of a text is. Its names are bounded, it has an object and a layer, and its rules speak of its own
-- objects alone. Each of its levels is loaded as a grid of the game, its rooms are sized, and each of its turns keeps
-- such grids.
use Rattle.std.specs.Prelude.{◌≡◌, ℕ, ◌<◌, ◌≤◌, false, Option, Some, None, List, [], All, ⊤, codes}
use Rattle.ps_model.specs.declared.play.Input.{Input}
use Rattle.ps_model.specs.declared.texts.Section.TheVariants.{Prelude}
use Rattle.ps_model.specs.text.Lines.{Line, lines_of}
use Rattle.ps_model.specs.text.Preludes.{is_set}
use Rattle.ps_model.specs.text.Sections.{section_lines}
use Rattle.ps_model.specs.declared.limits.TheConstants.{SIDE_LIMIT}
use Rattle.ps_model.specs.names.Names.{Names, object_count}
use Rattle.ps_model.specs.names.NamesRead.{names_read}
use Rattle.ps_model.specs.names.NameFaults.{name_faults}
use Rattle.ps_model.specs.names.NameBounds.{AreBounded}
use Rattle.ps_model.specs.rules.RuleLines.{rules_read}
use Rattle.ps_model.specs.meaning.GameRules.{IsLineOf}
use Rattle.ps_model.specs.board.Levels.{Level, loaded}
use Rattle.ps_model.specs.session.LevelLines.{Entry, MessageEntry, LevelEntry, entries_read}
use Rattle.ps_model.specs.session.GameLevels.{IsLevelOf, IsEntryOf, IsEntryWithinLimits}
use Rattle.ps_model.specs.session.RoomSizes.{HasRoomSize}
use Rattle.ps_model.specs.board.GameGrids.{IsGridOf}
use Rattle.ps_model.specs.board.Grid.{Grid, IsGrid}
use Rattle.ps_model.specs.game.Games.{Game, game}
use Rattle.ps_model.specs.board.Turns.{script_of, turn}
use Rattle.ps_laws.specs.KeptGrids.{IsOutcomeOf}
use Rattle.ps_laws.specs.SameSides.{HasSides}

-- names ---------------------------------------------------------------------------------------------------------------

-- names of lines without faults are bounded
abbrev pub NamesReadAreBounded : Type 0
NamesReadAreBounded =
    (header : ℕ) (object_lines legend_lines layer_lines : List Line) →
    name_faults header object_lines legend_lines layer_lines ≡ [] →
    AreBounded (names_read object_lines legend_lines layer_lines)

-- so are the names of a game
abbrev pub GamesAreBounded : Type 0
GamesAreBounded = (text : List ℕ) (read : Game) → game text ≡ Some read → AreBounded read.names

-- there is an object, and a layer
abbrev pub HasObject : Names → Type 0
HasObject names = (0 < object_count names) × (0 < names.layer_count)

-- lines without faults of names declare an object, and a layer
abbrev pub NamesReadHaveObjects : Type 0
NamesReadHaveObjects =
    (header : ℕ) (object_lines legend_lines layer_lines : List Line) →
    name_faults header object_lines legend_lines layer_lines ≡ [] →
    HasObject (names_read object_lines legend_lines layer_lines)

-- so a game has an object, and a layer
abbrev pub GamesHaveObjects : Type 0
GamesHaveObjects = (text : List ℕ) (read : Game) → game text ≡ Some read → HasObject read.names

-- rules ---------------------------------------------------------------------------------------------------------------

-- rules that are read, with names that are bounded, speak of objects of the game alone
abbrev pub RulesReadAreOfNames : Type 0
RulesReadAreOfNames =
    (names : Names) (lines : List Line) → AreBounded names → All (IsLineOf names) (rules_read names lines)

-- so do the rules of a game
abbrev pub GameRulesAreOfNames : Type 0
GameRulesAreOfNames = (text : List ℕ) (read : Game) → game text ≡ Some read → All (IsLineOf read.names) read.rules

-- levels --------------------------------------------------------------------------------------------------------------

-- a level of a game is loaded as a grid of the game
abbrev pub LoadedLevelsAreGrids : Type 0
LoadedLevelsAreGrids = (names : Names) (level : Level) → IsLevelOf names level → IsGridOf names (loaded names level)

-- entries that are read, with names that are bounded and of which one is an object, are of the game
abbrev pub EntriesReadAreOfNames : Type 0
EntriesReadAreOfNames =
    (names : Names) (lines : List Line) → AreBounded names → 0 < object_count names →
    All (IsEntryOf names) (entries_read names lines)

-- so are the entries of a game
abbrev pub GameEntriesAreOfNames : Type 0
GameEntriesAreOfNames = (text : List ℕ) (read : Game) → game text ≡ Some read → All (IsEntryOf read.names) read.entries

-- the entry is a level that is loaded as a grid of the game, or a message
abbrev pub LoadsAsGrid : Names → Entry → Type 0
LoadsAsGrid names (MessageEntry text) = ⊤
LoadsAsGrid names (LevelEntry level) = IsGridOf names (loaded names level)

-- each level of a game is loaded as a grid of the game
abbrev pub GameLevelsAreGrids : Type 0
GameLevelsAreGrids = (text : List ℕ) (read : Game) → game text ≡ Some read → All (LoadsAsGrid read.names) read.entries

-- the sides of each level of a game are within the limits
abbrev pub GameLevelsAreWithinLimits : Type 0
GameLevelsAreWithinLimits = (text : List ℕ) (read : Game) → game text ≡ Some read → All IsEntryWithinLimits read.entries

-- rooms ---------------------------------------------------------------------------------------------------------------

-- if a game has rooms, their size is within the limits
abbrev pub GameRoomsAreSized : Type 0
GameRoomsAreSized = (text : List ℕ) (read : Game) → game text ≡ Some read → HasRoomSize read.options

-- a game of which no line of the prelude begins with `flickscreen` has none
abbrev pub GamesWithoutRooms : Type 0
GamesWithoutRooms =
    (text : List ℕ) (read : Game) → game text ≡ Some read →
    is_set (section_lines (lines_of text) Prelude) (codes "flickscreen") ≡ false →
    read.options.flickscreen ≡ None

-- grids ---------------------------------------------------------------------------------------------------------------

-- a grid of a game is a grid, if its sides are within the limits
abbrev pub GridsOfGamesAreGrids : Type 0
GridsOfGamesAreGrids =
    (text : List ℕ) (read : Game) → game text ≡ Some read → (g : Grid) → IsGridOf read.names g →
    0 < g.width → g.width ≤ SIDE_LIMIT → 0 < g.height → g.height ≤ SIDE_LIMIT → IsGrid g

-- turns ---------------------------------------------------------------------------------------------------------------

-- a turn of a game makes of each grid of the game one of the game, with the same sides
abbrev pub GameTurnsKeepAll : Type 0
GameTurnsKeepAll =
    (text : List ℕ) (read : Game) → game text ≡ Some read → (input : Option Input) (g : Grid) → IsGridOf read.names g →
    IsOutcomeOf read.names (turn (script_of read) input g) × HasSides g (turn (script_of read) input g)
