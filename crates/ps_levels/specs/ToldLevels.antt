-- The faults of LEVELS that are told together: the first of each row and of each message, in the order of their lines;
-- that there are too many entries, at the line of the first over the limit; then that there is no level, at the header.
use Rattle.std.specs.Prelude.{ℕ, suc, not, List, [], ◌∷◌, ◌++◌, length, option_to_list}
use Rattle.std.specs.List.{list_any}
use Rattle.ps_model.specs.declared.faults.Fault.{Fault}
use Rattle.ps_model.specs.declared.faults.FaultKind.TheVariants.{NoLevel}
use Rattle.ps_model.specs.text.Faults.{first_fault, when}
use Rattle.ps_model.specs.text.Lines.{Line}
use Rattle.ps_model.specs.names.Names.{Names}
use Rattle.ps_model.specs.session.LevelFaults.{row_faults, too_many, are_level_lines}
use Rattle.ps_model.specs.session.LevelLines.{EntryLines, MessageLine, LevelRows, entry_lines, characters_of}

-- that of a row at a place in a level of that width
abbrev pub told_row : Names → ℕ → ℕ → Line → List Fault
told_row names width place row = option_to_list (first_fault (row_faults names width place row))

-- those of rows in a level of that width, the first of them at that place
abbrev pub told_rows : Names → ℕ → ℕ → List Line → List Fault
told_rows names width place [] = []
told_rows names width place (row ∷ below) =
    told_row names width place row ++ told_rows names width (suc place) below

-- those of an entry at a place among the entries
abbrev pub told_entry : Names → ℕ → EntryLines → List Fault
told_entry names place (MessageLine line) = too_many place line
told_entry names place (LevelRows first below) =
    let width : ℕ = length (characters_of first) in
    told_row names width 0 first ++ (too_many place first ++ told_rows names width 1 below)

-- those of entries, the first of them at that place
abbrev pub told_entries : Names → ℕ → List EntryLines → List Fault
told_entries names place [] = []
told_entries names place (entry ∷ others) = told_entry names place entry ++ told_entries names (suc place) others

-- that there is no level
abbrev pub told_absence : ℕ → List EntryLines → List Fault
told_absence header entries = when (not (list_any are_level_lines entries)) NoLevel header

-- those of LEVELS, whose header has that number
abbrev pub told_levels : Names → ℕ → List Line → List Fault
told_levels names header lines = told_entries names 0 (entry_lines lines) ++ told_absence header (entry_lines lines)
