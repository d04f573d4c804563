-- The faults of RULES, LEVELS and WINCONDITIONS that a check tells are picked from all of theirs.
use Rattle.std.proofs.Common.{◌≡◌, ◌∙◌, ◌++◌, ◌∷◌, ℕ, suc, List, [], length, refl, sym, ap}
use Rattle.std.specs.List.{list_any}
use Rattle.std.specs.Prelude.{not}
use Rattle.ps_model.specs.declared.faults.Fault.{Fault}
use Rattle.ps_model.specs.declared.faults.FaultKind.TheVariants.{NoLevel}
use Rattle.ps_model.specs.text.Faults.{first_fault, when}
use Rattle.ps_model.specs.text.Lines.{Line}
use Rattle.ps_model.specs.names.Names.{Names}
use Rattle.ps_model.specs.rules.RuleFaults.{Above, nothing_above, above_next, faults_of_line, faults_below, rule_faults}
use Rattle.ps_model.specs.rules.RuleFaults.{unclosed}
use Rattle.ps_model.specs.rules.RuleLines.{LineForm, form_of, lines_with_words}
use Rattle.ps_model.specs.rules.RuleSymbols.{Token, tokens_of, tokens_kept}
use Rattle.ps_model.specs.session.LevelFaults.{row_faults, rows_faults, too_many, entry_faults, entries_faults}
use Rattle.ps_model.specs.session.LevelFaults.{are_level_lines, level_faults}
use Rattle.ps_model.specs.session.LevelLines.{EntryLines, MessageLine, LevelRows, entry_lines, characters_of}
use Rattle.ps_model.specs.board.WinLines.{win_faults_of, win_faults}
use Rattle.ps_rules.specs.ToldRules.{told_below, told_rules}
use Rattle.ps_levels.specs.ToldLevels.{told_row, told_rows, told_entry, told_entries, told_absence, told_levels}
use Rattle.ps_levels.specs.ToldWins.{told_win, told_wins}
use Rattle.ps_game.proofs.Picked.{AreOf, same-are, joined-are, first-is, first-joined, first-same, front-same}

-- RULES ---------------------------------------------------------------------------------------------------------------

below-are : (names : Names) (above : Above) (lines : List Line) →
    AreOf (told_below names above lines) (faults_below names above lines)
below-are names above [] = same-are (unclosed above.loop)
below-are names above (line ∷ lines) =
    let tokens : List Token = tokens_of names line in
    let form : LineForm = form_of line (tokens_kept tokens) in
    let next : Above = above_next above line.number form in
    first-joined (faults_of_line above line.number tokens form) (told_below names next lines)
    (faults_below names next lines) (below-are names next lines)

pub rules-are : (names : Names) (lines : List Line) → AreOf (told_rules names lines) (rule_faults names lines)
rules-are names lines = below-are names nothing_above (lines_with_words lines)

below-first : (names : Names) (above : Above) (lines : List Line) →
    first_fault (told_below names above lines) ≡ first_fault (faults_below names above lines)
below-first names above [] = refl
below-first names above (line ∷ lines) =
    let tokens : List Token = tokens_of names line in
    let form : LineForm = form_of line (tokens_kept tokens) in
    let next : Above = above_next above line.number form in
    first-same (faults_of_line above line.number tokens form) (told_below names next lines)
    (faults_below names next lines) (below-first names next lines)

pub rules-first : (names : Names) (lines : List Line) →
    first_fault (told_rules names lines) ≡ first_fault (rule_faults names lines)
rules-first names lines = below-first names nothing_above (lines_with_words lines)

-- LEVELS --------------------------------------------------------------------------------------------------------------

rows-are : (names : Names) (width place : ℕ) (rows : List Line) →
    AreOf (told_rows names width place rows) (rows_faults names width place rows)
rows-are names width place [] = same-are []
rows-are names width place (row ∷ below) =
    first-joined (row_faults names width place row) (told_rows names width (suc place) below)
    (rows_faults names width (suc place) below) (rows-are names width (suc place) below)

rows-first : (names : Names) (width place : ℕ) (rows : List Line) →
    first_fault (told_rows names width place rows) ≡ first_fault (rows_faults names width place rows)
rows-first names width place [] = refl
rows-first names width place (row ∷ below) =
    first-same (row_faults names width place row) (told_rows names width (suc place) below)
    (rows_faults names width (suc place) below) (rows-first names width (suc place) below)

entry-are : (names : Names) (place : ℕ) (entry : EntryLines) →
    AreOf (told_entry names place entry) (entry_faults names place entry)
entry-are names place (MessageLine line) = same-are (too_many place line)
entry-are names place (LevelRows first below) =
    let width : ℕ = length (characters_of first) in
    first-joined (row_faults names width 0 first) (too_many place first ++ told_rows names width 1 below)
    (too_many place first ++ rows_faults names width 1 below)
    (joined-are (too_many place first) (too_many place first) (told_rows names width 1 below)
    (rows_faults names width 1 below) (same-are (too_many place first)) (rows-are names width 1 below))

entry-first : (names : Names) (place : ℕ) (entry : EntryLines) →
    first_fault (told_entry names place entry) ≡ first_fault (entry_faults names place entry)
entry-first names place (MessageLine line) = refl
entry-first names place (LevelRows first below) =
    let width : ℕ = length (characters_of first) in
    first-same (row_faults names width 0 first) (too_many place first ++ told_rows names width 1 below)
    (too_many place first ++ rows_faults names width 1 below)
    (front-same (too_many place first) (too_many place first) (told_rows names width 1 below)
    (rows_faults names width 1 below) refl (rows-first names width 1 below))

entries-are : (names : Names) (place : ℕ) (entries : List EntryLines) →
    AreOf (told_entries names place entries) (entries_faults names place entries)
entries-are names place [] = same-are []
entries-are names place (entry ∷ others) =
    joined-are (told_entry names place entry) (entry_faults names place entry)
    (told_entries names (suc place) others) (entries_faults names (suc place) others) (entry-are names place entry)
    (entries-are names (suc place) others)

entries-first : (names : Names) (place : ℕ) (entries : List EntryLines) →
    first_fault (told_entries names place entries) ≡ first_fault (entries_faults names place entries)
entries-first names place [] = refl
entries-first names place (entry ∷ others) =
    front-same (told_entry names place entry) (entry_faults names place entry)
    (told_entries names (suc place) others) (entries_faults names (suc place) others) (entry-first names place entry)
    (entries-first names (suc place) others)

pub levels-are : (names : Names) (header : ℕ) (lines : List Line) →
    AreOf (told_levels names header lines) (level_faults names header lines)
levels-are names header lines =
    let entries : List EntryLines = entry_lines lines in
    joined-are (told_entries names 0 entries) (entries_faults names 0 entries) (told_absence header entries)
    (told_absence header entries) (entries-are names 0 entries) (same-are (told_absence header entries))

pub levels-first : (names : Names) (header : ℕ) (lines : List Line) →
    first_fault (told_levels names header lines) ≡ first_fault (level_faults names header lines)
levels-first names header lines =
    let entries : List EntryLines = entry_lines lines in
    front-same (told_entries names 0 entries) (entries_faults names 0 entries) (told_absence header entries)
    (told_absence header entries) (entries-first names 0 entries) refl

-- WINCONDITIONS -------------------------------------------------------------------------------------------------------

pub wins-are : (names : Names) (lines : List Line) → AreOf (told_wins names lines) (win_faults names lines)
wins-are names [] = same-are []
wins-are names (line ∷ lines) =
    first-joined (win_faults_of names line) (told_wins names lines) (win_faults names lines) (wins-are names lines)

pub wins-first : (names : Names) (lines : List Line) →
    first_fault (told_wins names lines) ≡ first_fault (win_faults names lines)
wins-first names [] = refl
wins-first names (line ∷ lines) =
    first-same (win_faults_of names line) (told_wins names lines) (win_faults names lines) (wins-first names lines)
