-- The rules of every game speak of its own objects alone. Each of its levels is loaded as a grid of the game, and each
-- of its turns keeps such grids and their sides.
use Rattle.std.proofs.Common.{◌≡◌, List, [], length, sym, ◌∙◌, arith}
use Rattle.std.specs.Prelude.{All}
use Rattle.std.proofs.lemmas.List.Elements.{All-weaker}
use Rattle.ps_model.specs.declared.texts.Section.TheVariants.{Objects, Legend, Layers, Rules, Levels}
use Rattle.ps_model.specs.text.Lines.{Line}
use Rattle.ps_model.specs.text.Sections.{section_lines, header_number}
use Rattle.ps_model.specs.names.Names.{Names}
use Rattle.ps_model.specs.names.NamesRead.{names_read}
use Rattle.ps_model.specs.names.NameBounds.{AreBounded}
use Rattle.ps_model.specs.names.NameFaults.{name_faults}
use Rattle.ps_model.specs.meaning.GameRules.{IsLineOf}
use Rattle.ps_model.specs.session.LevelLines.{Entry, MessageEntry, LevelEntry}
use Rattle.ps_model.specs.declared.pieces.Slot.{Slot}
use Rattle.ps_model.specs.board.GameGrids.{IsCellOf}
use Rattle.ps_model.specs.session.GameLevels.{IsEntryOf}
use Rattle.ps_model.specs.game.Games.{Game}
use Rattle.ps_model.specs.board.Turns.{script_of}
use Rattle.ps_laws.specs.GamesOfTexts.{HasObject, LoadsAsGrid, GameRulesAreOfNames, GameEntriesAreOfNames}
use Rattle.ps_laws.specs.GamesOfTexts.{GameLevelsAreGrids, GridsOfGamesAreGrids, GameTurnsKeepAll}
use Rattle.ps_laws.proofs.texts.FaultlessNames.{of_every_game}
use Rattle.ps_laws.proofs.texts.BoundedNames.{names_read-bounded, game-bounded}
use Rattle.ps_laws.proofs.texts.ObjectsThere.{names_read-have, game-has}
use Rattle.ps_laws.proofs.texts.RulesOfNames.{rules_read-game}
use Rattle.ps_laws.proofs.texts.LevelsOfNames.{loaded-game, entries_read-game}
use Rattle.ps_laws.proofs.grids.KeptTurns.{game_turn-keeps}
use Rattle.ps_laws.proofs.grids.KeptSides.{turn-sides}

-- the names that are read from the lines of a text
abbrev names_of_lines : List Line → Names
names_of_lines lines = names_read (section_lines lines Objects) (section_lines lines Legend)
    (section_lines lines Layers)

-- they have no fault
abbrev AreFaultless : List Line → Type 0
AreFaultless lines = name_faults (header_number lines Objects) (section_lines lines Objects)
    (section_lines lines Legend) (section_lines lines Layers) ≡ []

lines-bounded : (lines : List Line) → AreFaultless lines → AreBounded (names_of_lines lines)
lines-bounded lines none = names_read-bounded (header_number lines Objects) (section_lines lines Objects)
    (section_lines lines Legend) (section_lines lines Layers) none

lines-have : (lines : List Line) → AreFaultless lines → HasObject (names_of_lines lines)
lines-have lines none = names_read-have (header_number lines Objects) (section_lines lines Objects)
    (section_lines lines Legend) (section_lines lines Layers) none

pub game-rules : GameRulesAreOfNames
game-rules text read e =
    of_every_game (λ (made : Game). All (IsLineOf made.names) made.rules) (λ lines none.
    rules_read-game (names_of_lines lines) (section_lines lines Rules) (lines-bounded lines none)) text read e

pub game-entries : GameEntriesAreOfNames
game-entries text read e =
    of_every_game (λ (made : Game). All (IsEntryOf made.names) made.entries)
    (λ lines none. entries_read-game (names_of_lines lines) (section_lines lines Levels) (lines-bounded lines none)
    (lines-have lines none).0) text read e

loads : (names : Names) (entry : Entry) → IsEntryOf names entry → LoadsAsGrid names entry
loads names (MessageEntry text) h = tt
loads names (LevelEntry level) h = loaded-game names level h

pub game-levels : GameLevelsAreGrids
game-levels text read e = All-weaker (IsEntryOf read.names) (LoadsAsGrid read.names) (loads read.names) read.entries
    (game-entries text read e)

pub game-grids : GridsOfGamesAreGrids
game-grids text read e g h some_column columns some_row rows =
    let bounded : AreBounded read.names = game-bounded text read e in
    let has : HasObject read.names = game-has text read e in
    record {
      some_column = some_column;
      columns = columns;
      some_row = some_row;
      rows = rows;
      some_layer = omega (arith, h.layers, has.1);
      few_layers = omega (arith, h.layers, bounded.few_layers);
      cells = h.shape;
      slots = All-weaker (IsCellOf read.names) (λ (cell : List Slot). length cell ≡ g.layers) (λ cell c. c.0
          ∙ sym h.layers) g.cells h.cells;
    }

pub game-turns : GameTurnsKeepAll
game-turns text read e input g h = (
  game_turn-keeps read input g (game-rules text read e) h,
  turn-sides (script_of read) input g,
)
