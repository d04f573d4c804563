-- Levels and messages of the code as those of the definitions.
use Rattle.std.specs.Prelude.{ℕ, ◌+◌, Bool, true, false, List, map}
use Rattle.std.specs.List.{take_while}
use Rattle.ps_model.specs.session.LevelLines as model
use Rattle.ps_model.specs.text.LineNumbers.{line_at, lines_between}
use Rattle.ps_levels.specs.declared.levels.Entry.{Entry}
use Rattle.ps_levels.specs.declared.levels.Entry.TheVariants.{Message, Level}

-- an entry
abbrev pub entry_shown : Entry → model.Entry
entry_shown (Message text) = model.MessageEntry text
entry_shown (Level level) = model.LevelEntry level

abbrev pub entries_shown : List Entry → List model.Entry
entries_shown entries = map entry_shown entries

-- the entry is a level
abbrev pub is_level_entry : model.Entry → Bool
is_level_entry (model.MessageEntry text) = false
is_level_entry (model.LevelEntry level) = true

-- the rows of the level that begins at the first of the lines between two numbers
abbrev pub level_lines : List ℕ → ℕ → ℕ → model.EntryLines
level_lines text first end = model.LevelRows (line_at text first)
    (take_while model.is_row (lines_between text (first + 1) end))
