-- The game of a text, and the faults of a text. Each part is read from a text with faults too, as far as it goes. A
-- text is a game exactly where it has no fault; a refusal tells the first of its faults.
use Rattle.std.specs.Prelude.{ℕ, Option, Some, None, List, [], ◌∷◌, ◌++◌}
use Rattle.ps_model.specs.declared.texts.Section.TheVariants.{Prelude, Objects, Legend, Layers, Rules, Wins, Levels}
use Rattle.ps_model.specs.declared.faults.Fault.{Fault}
use Rattle.ps_model.specs.text.TextFaults.{text_fault}
use Rattle.ps_model.specs.text.Lines.{Line, lines_of}
use Rattle.ps_model.specs.declared.options.Options.{Options}
use Rattle.ps_model.specs.text.Preludes.{options_of, title_of}
use Rattle.ps_model.specs.text.Sections.{section_lines, header_number, heading_faults}
use Rattle.ps_model.specs.names.Names.{Names}
use Rattle.ps_model.specs.names.NamesRead.{names_read}
use Rattle.ps_model.specs.names.NameFaults.{name_faults}
use Rattle.ps_model.specs.rules.SourceRules.{RuleLine}
use Rattle.ps_model.specs.rules.RuleLines.{rules_read}
use Rattle.ps_model.specs.rules.RuleFaults.{rule_faults}
use Rattle.ps_model.specs.rules.ReadingFaults.{reading_faults}
use Rattle.ps_model.specs.session.LevelLines.{Entry, entries_read}
use Rattle.ps_model.specs.session.LevelFaults.{level_faults}
use Rattle.ps_model.specs.board.Wins.{Win}
use Rattle.ps_model.specs.board.WinLines.{wins_read, win_faults}

-- a game
pub record Game : Type 0 where
  pub title : List ℕ
  pub options : Options
  pub names : Names
  -- the lines of RULES
  pub rules : List RuleLine
  -- the levels and messages, in the order in which they are played
  pub entries : List Entry
  pub wins : List Win

-- the game that lines say with these names: each part is read from the lines of its section
abbrev pub game_with : List Line → Names → Game
game_with lines names = record {
  title = title_of (section_lines lines Prelude);
  options = options_of (section_lines lines Prelude);
  names = names;
  rules = rules_read names (section_lines lines Rules);
  entries = entries_read names (section_lines lines Levels);
  wins = wins_read names (section_lines lines Wins);
}

-- what is read from the lines of a text, with faults or without
abbrev pub game_read : List Line → Game
game_read lines =
    game_with lines (names_read (section_lines lines Objects) (section_lines lines Legend) (section_lines lines Layers))

-- the faults of lines, of which this was read: headers and prelude; names; rules; levels; win conditions; then rules
-- with too many readings, and rules of which every reading is impossible
abbrev pub faults_beside : Game → List Line → List Fault
faults_beside read lines =
    heading_faults lines
    ++ (name_faults (header_number lines Objects) (section_lines lines Objects) (section_lines lines Legend)
    (section_lines lines Layers)
    ++ (rule_faults read.names (section_lines lines Rules)
    ++ (level_faults read.names (header_number lines Levels) (section_lines lines Levels)
    ++ (win_faults read.names (section_lines lines Wins) ++ reading_faults read.names read.rules))))

-- the faults of lines
abbrev pub line_faults : List Line → List Fault
line_faults lines = faults_beside (game_read lines) lines

-- the faults of a text, in the order in which they are told; of bytes that are no text that one alone. A refusal
-- tells the first; which others a text has is said by itself
abbrev pub faults : List ℕ → List Fault
faults text = elim (text_fault text) [ Some fault ↦ fault ∷ [] | None ↦ line_faults (lines_of text) ]

-- what was read, if there is no fault
abbrev pub unless : List Fault → Game → Option Game
unless [] read = Some read
unless (fault ∷ others) read = None

-- the game of lines: what is read from them, if they have no fault
abbrev pub game_of_lines : List Line → Option Game
game_of_lines lines = let read : Game = game_read lines in unless (faults_beside read lines) read

-- the game of a text, if it has no fault
abbrev pub game : List ℕ → Option Game
game text = elim (text_fault text) [ Some fault ↦ None | None ↦ game_of_lines (lines_of text) ]
