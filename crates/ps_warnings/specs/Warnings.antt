-- The warnings of a text: what is surely a mistake in a game, though it is no fault. A text with a fault has none, as
-- that is to be mended first. They come in the order of lines, as sections do.
use Rattle.std.specs.Prelude.{ℕ, Some, None, List, [], ◌++◌}
use Rattle.ps_model.specs.declared.texts.Section.TheVariants.{Prelude, Legend, Layers, Rules, Wins, Levels}
use Rattle.ps_model.specs.text.Lines.{Line, lines_of}
use Rattle.ps_model.specs.text.Sections.{header_number, section_lines}
use Rattle.ps_model.specs.text.TextFaults.{text_fault}
use Rattle.ps_model.specs.game.Games.{Game, game_of_lines}
use Rattle.ps_warnings.specs.declared.kinds.Warning.{Warning}
use Rattle.ps_warnings.specs.Brought.{objects_there}
use Rattle.ps_warnings.specs.GroundWarnings.{ground_warnings}
use Rattle.ps_warnings.specs.InOrder.{in_order}
use Rattle.ps_warnings.specs.OptionWarnings.{option_warnings}
use Rattle.ps_warnings.specs.RoomWarnings.{room_warnings}
use Rattle.ps_warnings.specs.RuleWarnings.{rule_warnings}
use Rattle.ps_warnings.specs.LayerWarnings.{layer_warnings}
use Rattle.ps_warnings.specs.LevelWarnings.{level_warnings}
use Rattle.ps_warnings.specs.NameWarnings.{name_warnings}
use Rattle.ps_warnings.specs.ObjectWarnings.{object_warnings}
use Rattle.ps_warnings.specs.Sounds.{sounding_lines}
use Rattle.ps_warnings.specs.Spoken.{spoken_in}
use Rattle.ps_warnings.specs.UnwonWarnings.{unwon_warnings}
use Rattle.ps_warnings.specs.WinWarnings.{win_warnings}
use Rattle.ps_warnings.specs.WordWarnings.{level_line_warnings, written_warnings}

-- those of the prelude of lines that are this game
abbrev pub prelude_in : Game → List Line → List Warning
prelude_in read lines =
    in_order (option_warnings (section_lines lines Prelude))
    (room_warnings read.options.flickscreen read.entries (section_lines lines Prelude))

-- those of the names that lines declare that are this game
abbrev pub unused_in : Game → List Line → List Warning
unused_in read lines =
    object_warnings read.names (spoken_in read) read.entries lines
    ++ name_warnings read.names (spoken_in read) (section_lines lines Legend) (section_lines lines Layers)

-- those of OBJECTS, LEGEND and COLLISIONLAYERS of lines that are this game
abbrev pub declarations_in : Game → List Line → List Warning
declarations_in read lines =
    unused_in read lines
    ++ in_order (layer_warnings read.names (section_lines lines Layers))
    (ground_warnings read.names read.rules (section_lines lines Layers))

-- those of the rules of lines that are this game
abbrev pub rules_in : Game → List Line → List Warning
rules_in read lines =
    in_order
    (rule_warnings read.names (sounding_lines (section_lines lines Rules))
    (objects_there read.names read.rules read.entries) read.rules)
    (written_warnings (section_lines lines Rules))

-- those of the win conditions of lines that are this game
abbrev pub wins_in : Game → List Line → List Warning
wins_in read lines =
    win_warnings read.names (objects_there read.names read.rules read.entries) (section_lines lines Wins)
    ++ unwon_warnings read (header_number lines Levels)

-- those of lines that are this game
abbrev pub warnings_in : Game → List Line → List Warning
warnings_in read lines =
    prelude_in read lines
    ++ (declarations_in read lines
    ++ (rules_in read lines
    ++ (wins_in read lines
    ++ in_order (level_warnings read.names (section_lines lines Levels))
    (level_line_warnings (section_lines lines Levels)))))

-- those of lines
abbrev pub warnings_of_lines : List Line → List Warning
warnings_of_lines lines = elim (game_of_lines lines) [ Some read ↦ warnings_in read lines | None ↦ [] ]

-- those of a text
unfoldable pub warnings : List ℕ → List Warning
warnings text = elim (text_fault text) [ Some fault ↦ [] | None ↦ warnings_of_lines (lines_of text) ]
