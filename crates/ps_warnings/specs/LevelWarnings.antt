-- Levels without a Player: no object of Player stands in a cell.
use Rattle.std.specs.Prelude.{ℕ, Bool, if◌then◌else◌, List, [], ◌∷◌, ◌++◌}
use Rattle.std.specs.List.{flat_map, list_any}
use Rattle.ps_model.specs.text.Lines.{Line}
use Rattle.ps_model.specs.names.Names.{Names, is_among, players}
use Rattle.ps_model.specs.board.Levels.{Level}
use Rattle.ps_model.specs.session.LevelLines.{Entry, MessageEntry, LevelEntry, EntryLines, entry_lines, entry_of_lines}
use Rattle.ps_warnings.specs.declared.kinds.Warning.{Warning}
use Rattle.ps_warnings.specs.declared.kinds.WarningKind.TheVariants.{NoPlayer}
use Rattle.ps_warnings.specs.LevelStarts.{number_of}

-- an object of Player stands in a cell of the level
abbrev pub shows_player : Names → Level → Bool
shows_player names level = list_any (list_any (is_among (players names))) level.cells

-- a level that begins at a line, unless it shows a Player
abbrev pub warned_unless : Bool → ℕ → List Warning
warned_unless shown line = if shown then [] else record { line = line; kind = NoPlayer } ∷ []

-- an entry that begins at a line
abbrev pub warnings_of_entry : Names → ℕ → Entry → List Warning
warnings_of_entry names line (MessageEntry text) = []
warnings_of_entry names line (LevelEntry level) = warned_unless (shows_player names level) line

-- the entry of lines
abbrev pub warnings_of_lines : Names → EntryLines → List Warning
warnings_of_lines names lines = warnings_of_entry names (number_of lines) (entry_of_lines names lines)

-- the entries of LEVELS, from its lines that are there
abbrev pub level_warnings : Names → List Line → List Warning
level_warnings names lines = flat_map (warnings_of_lines names) (entry_lines lines)

-- entries that begin at lines of these numbers
abbrev pub warnings_at : Names → List ℕ → List Entry → List Warning
warnings_at names [] entries = []
warnings_at names (number ∷ numbers) [] = []
warnings_at names (number ∷ numbers) (entry ∷ entries) =
    warnings_of_entry names number entry ++ warnings_at names numbers entries
