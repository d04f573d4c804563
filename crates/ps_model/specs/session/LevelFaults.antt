-- Faults of LEVELS: characters that may not stand in a row, too large levels, too many entries, and no level at all.
use Rattle.std.specs.Prelude.{encode_utf8, ℕ, suc, nat_eq, nat_lt, Bool, true, false, ◌&&◌, ◌||◌, not, Option, is_some}
use Rattle.std.specs.Prelude.{List, [], ◌∷◌, ◌++◌, length, take}
use Rattle.std.specs.Char.{to_ascii_lowercase}
use Rattle.std.specs.List.{list_any}
use Rattle.std.specs.Str.{bytes_eq}
use Rattle.std.specs.Map.{lookup}
use Rattle.ps_model.specs.declared.faults.Fault.{Fault}
use Rattle.ps_model.specs.declared.faults.FaultKind.TheVariants.{UnknownGlyph, PropertyGlyph, TooLarge, NoLevel}
use Rattle.ps_model.specs.declared.faults.FaultKind.TheVariants.{TooManyEntries}
use Rattle.ps_model.specs.declared.limits.TheConstants.{SIDE_LIMIT, ENTRY_LIMIT}
use Rattle.ps_model.specs.text.Faults.{when}
use Rattle.ps_model.specs.text.Lines.{Line}
use Rattle.ps_model.specs.names.Names.{Meaning, Names}
use Rattle.ps_model.specs.names.Meanings.{is_property}
use Rattle.ps_model.specs.session.LevelLines.{EntryLines, MessageLine, LevelRows, entry_lines, characters_of}

-- what a character stands for, if it is a name, ASCII letters folded
abbrev pub character_meaning : Names → ℕ → Option Meaning
character_meaning names character = lookup (bytes_eq (encode_utf8 (to_ascii_lowercase character))) names.entries

-- an unknown glyph, LV1: no name of one character is this one; a blank within a row is none
abbrev pub is_unknown_glyph : Names → ℕ → Bool
is_unknown_glyph names character = not (is_some (character_meaning names character))

-- a glyph that is a property, LV2
abbrev pub is_property_glyph : Names → ℕ → Bool
is_property_glyph names character = is_property (character_meaning names character)

-- a level too large, LV3, at a row by its place in the level: at the first row where that is too long, and at the first
-- row over the limit
abbrev pub is_too_large : ℕ → ℕ → Bool
is_too_large width place = (nat_eq place 0 && nat_lt SIDE_LIMIT width) || nat_eq place SIDE_LIMIT

-- the faults of a row at a place in a level of that width; characters past the width aren't looked at
abbrev pub row_faults : Names → ℕ → ℕ → Line → List Fault
row_faults names width place row =
    let characters : List ℕ = take width (characters_of row) in
    when (list_any (is_unknown_glyph names) characters) UnknownGlyph row.number
    ++ (when (list_any (is_property_glyph names) characters) PropertyGlyph row.number ++ when
    (is_too_large width place) TooLarge row.number)

-- the faults of rows in a level of that width, the first of them at that place
abbrev pub rows_faults : Names → ℕ → ℕ → List Line → List Fault
rows_faults names width place [] = []
rows_faults names width place (row ∷ below) =
    row_faults names width place row ++ rows_faults names width (suc place) below

-- too many entries, LV5: the first over the limit, by its place among the entries, at its first line
abbrev pub too_many : ℕ → Line → List Fault
too_many place first = when (nat_eq place ENTRY_LIMIT) TooManyEntries first.number

-- the faults of an entry at a place among the entries
abbrev pub entry_faults : Names → ℕ → EntryLines → List Fault
entry_faults names place (MessageLine line) = too_many place line
entry_faults names place (LevelRows first below) =
    let width : ℕ = length (characters_of first) in
    row_faults names width 0 first ++ (too_many place first ++ rows_faults names width 1 below)

-- the faults of entries, the first of them at that place
abbrev pub entries_faults : Names → ℕ → List EntryLines → List Fault
entries_faults names place [] = []
entries_faults names place (entry ∷ others) = entry_faults names place entry ++ entries_faults names (suc place) others

-- the entry is a level
abbrev pub are_level_lines : EntryLines → Bool
are_level_lines (MessageLine line) = false
are_level_lines (LevelRows first below) = true

-- the faults of LEVELS, whose header has that number: line by line; then that there is no level, LV4, at the header
abbrev pub level_faults : Names → ℕ → List Line → List Fault
level_faults names header lines =
    let entries : List EntryLines = entry_lines lines in
    entries_faults names 0 entries ++ when (not (list_any are_level_lines entries)) NoLevel header
