-- Of each line that has a fault one is told.
use Rattle.std.proofs.Common.{◌≡◌, ◌∙◌, ◌⊎◌, inl, inr, ◌<◌, ◌≤◌, ◌+◌, ◌++◌, ◌∷◌, ℕ, suc, Bool, true, false, Option, Some}
use Rattle.std.proofs.Common.{None, List, [], length, refl, sym, ap, arith}
use Rattle.std.proofs.lemmas.Bool.Decides.{nat_tests}
use Rattle.std.proofs.lemmas.List.{length-append}
use Rattle.std.proofs.lemmas.List.Folds.{list_any-append}
use Rattle.std.specs.List.{IsAmong, list_any}
use Rattle.std.specs.Prelude.{not, nat_eq, nat_lt, option_to_list, take, ◌&&◌, ◌||◌, if◌then◌else◌}
use Rattle.ps_model.specs.declared.texts.Section.TheVariants.{Rules, Wins, Levels}
use Rattle.ps_model.specs.declared.faults.Fault.{Fault}
use Rattle.ps_model.specs.declared.faults.FaultKind.{FaultKind}
use Rattle.ps_model.specs.text.Faults.{first_fault, when}
use Rattle.ps_model.specs.text.TextFaults.{text_fault}
use Rattle.ps_model.specs.text.Lines.{Line, lines_of}
use Rattle.ps_model.specs.text.Sections.{section_lines, header_number, heading_faults}
use Rattle.ps_model.specs.names.Names.{Names}
use Rattle.ps_model.specs.rules.RuleFaults.{Above, nothing_above, above_next, faults_of_line, faults_of_form}
use Rattle.ps_model.specs.rules.RuleFaults.{faults_of_count, faults_of_rule, faults_below, rule_faults, unclosed}
use Rattle.ps_model.specs.rules.RuleFaults.{starts_within, ends_without, has_lone_plus, joins_other_part, has_left_out}
use Rattle.ps_model.specs.rules.RuleFaults.{is_one_too_many}
use Rattle.ps_model.specs.rules.RuleShapeFaults.{has_bad_bracket, has_unknown_word, has_other_rows, has_nothing_right}
use Rattle.ps_model.specs.rules.RuleShapeFaults.{has_late_move, has_bad_ellipsis}
use Rattle.ps_model.specs.rules.RuleNameFaults.{has_name_twice, puts_no_before_aggregate, has_unbound}
use Rattle.ps_model.specs.declared.faults.FaultKind.TheVariants.{BadBracket, UnknownWord, RowsDiffer, NothingRight}
use Rattle.ps_model.specs.declared.faults.FaultKind.TheVariants.{NameTwice, NoAggregate, Unbound, LateMove, PlusAlone}
use Rattle.ps_model.specs.declared.faults.FaultKind.TheVariants.{PlusLate, Loop, Ellipsis, NotInProfile, TooManyRules}
use Rattle.ps_model.specs.declared.faults.FaultKind.TheVariants.{UnknownGlyph, PropertyGlyph, TooLarge, BadWin}
use Rattle.ps_model.specs.declared.faults.FaultKind.TheVariants.{UnknownWinName}
use Rattle.ps_model.specs.rules.RuleLines.{LineForm, StartForm, EndForm, RuleForm, NoForm, form_of, lines_with_words}
use Rattle.ps_model.specs.rules.RuleShape.{RuleShape}
use Rattle.ps_model.specs.rules.RuleSymbols.{Token, tokens_of, tokens_kept}
use Rattle.ps_model.specs.rules.SourceRules.{SourceRule}
use Rattle.ps_model.specs.session.LevelFaults.{row_faults, rows_faults, too_many, entry_faults, entries_faults}
use Rattle.ps_model.specs.session.LevelFaults.{level_faults, is_unknown_glyph, is_property_glyph, is_too_large}
use Rattle.ps_model.specs.session.LevelLines.{EntryLines, MessageLine, LevelRows, entry_lines, characters_of}
use Rattle.ps_model.specs.board.WinLines.{win_faults_of, win_faults, win_text, is_bad_win, has_unknown_name}
use Rattle.ps_rules.specs.ToldRules.{told_below, told_rules}
use Rattle.ps_levels.specs.ToldLevels.{told_row, told_rows, told_entry, told_entries, told_absence, told_levels}
use Rattle.ps_levels.specs.ToldWins.{told_wins}
use Rattle.ps_game.specs.ToldFaults.{first_or, readings_below, rules_of_lines, told_below_names, names_of_lines}
use Rattle.ps_game.specs.ToldFaults.{faults_of_names, told_of_lines, told_of_text, told_with, told_once, told_faults}
use Rattle.ps_game.specs.ToldLaws.{below_names, phase_of_lines, phase_faults, EachLineIsTold}
use Rattle.ps_game.proofs.Picked.{Has, among-has}

-- a fault of the line is among these
abbrev at_line : ℕ → Fault → Bool
at_line line other = nat_eq other.line line

-- of the line of each of those one is told
abbrev AreTold : List Fault → List Fault → Type 0
AreTold told all = (fault : Fault) → Has all fault → list_any (at_line fault.line) told ≡ true

-- all of these are of a line
abbrev AreAt : ℕ → List Fault → Type 0
AreAt line faults = (fault : Fault) → Has faults fault → fault.line ≡ line

same-line : (line other : ℕ) → line ≡ other → nat_eq line other ≡ true
same-line line other e = grind (arith, nat_tests)

or-true : (b : Bool) → b || true ≡ true
or-true true = refl
or-true false = refl

any-left : (line : ℕ) (xs ys : List Fault) → list_any (at_line line) xs ≡ true →
    list_any (at_line line) (xs ++ ys) ≡ true
any-left line xs ys e = list_any-append (at_line line) xs ys ∙ ap (λ (b : Bool). b || list_any (at_line line) ys) e

any-right : (line : ℕ) (xs ys : List Fault) → list_any (at_line line) ys ≡ true →
    list_any (at_line line) (xs ++ ys) ≡ true
any-right line xs ys e =
    list_any-append (at_line line) xs ys ∙ ap (λ (b : Bool). list_any (at_line line) xs || b) e
    ∙ or-true (list_any (at_line line) xs)

has-either : (xs ys : List Fault) (fault : Fault) → Has (xs ++ ys) fault → Has xs fault ⊎ Has ys fault
has-either [] ys fault has = inr has
has-either (x ∷ xs) ys fault (inl same) = inl (inl same)
has-either (x ∷ xs) ys fault (inr has) = elim (has-either xs ys fault has) [ inl h ↦ inl (inr h) | inr h ↦ inr h ]

joined-told : (xs xs' ys ys' : List Fault) → AreTold xs xs' → AreTold ys ys' → AreTold (xs ++ ys) (xs' ++ ys')
joined-told xs xs' ys ys' front behind fault has = elim (has-either xs' ys' fault has) [
  | inl h ↦ any-left fault.line xs ys (front fault h)
  | inr h ↦ any-right fault.line xs ys (behind fault h)
]

own-told : (faults : List Fault) → AreTold faults faults
own-told [] fault has = absurd has
own-told (x ∷ xs) fault (inl same) =
    ap (λ (b : Bool). b || list_any (at_line fault.line) xs) (same-line x.line fault.line
    (ap (λ (f : Fault). f.line) same))
own-told (x ∷ xs) fault (inr has) =
    ap (λ (b : Bool). at_line fault.line x || b) (own-told xs fault has) ∙ or-true (at_line fault.line x)

-- the first of a line stands for all of it
first-told : (line : ℕ) (faults : List Fault) → AreAt line faults →
    AreTold (option_to_list (first_fault faults)) faults
first-told line [] at fault has = absurd has
first-told line (x ∷ xs) at fault has =
    ap (λ (b : Bool). b || false) (same-line x.line fault.line (at x (inl refl) ∙ sym (at fault has)))

line-first : (line : ℕ) (faults ys ys' : List Fault) → AreAt line faults → AreTold ys ys' →
    AreTold (option_to_list (first_fault faults) ++ ys) (faults ++ ys')
line-first line faults ys ys' at behind =
    joined-told (option_to_list (first_fault faults)) faults ys ys' (first-told line faults at) behind

-- faults of one line --------------------------------------------------------------------------------------------------

when-at : (test : Bool) (kind : FaultKind) (line : ℕ) → AreAt line (when test kind line)
when-at true kind line fault (inl same) = sym (ap (λ (f : Fault). f.line) same)
when-at true kind line fault (inr has) = absurd has
when-at false kind line fault has = absurd has

joined-at : (line : ℕ) (xs ys : List Fault) → AreAt line xs → AreAt line ys → AreAt line (xs ++ ys)
joined-at line xs ys front behind fault has = elim (has-either xs ys fault has) [
  | inl h ↦ front fault h
  | inr h ↦ behind fault h
]

also-at : (line : ℕ) (test : Bool) (kind : FaultKind) (others : List Fault) → AreAt line others →
    AreAt line (when test kind line ++ others)
also-at line test kind others at = joined-at line (when test kind line) others (when-at test kind line) at

rule-at : (above : Above) (line : ℕ) (shape : RuleShape) (rule : SourceRule) →
    AreAt line (faults_of_rule above line shape rule)
rule-at above line shape rule =
    let ellipsis : List Fault = when (has_bad_ellipsis shape) Ellipsis line in
    let late : List Fault = when (joins_other_part above rule) PlusLate line ++ ellipsis in
    let alone : List Fault = when (has_lone_plus above rule) PlusAlone line ++ late in
    let moves : List Fault = when (has_late_move shape) LateMove line ++ alone in
    let unbound : List Fault = when (has_unbound rule) Unbound line ++ moves in
    let aggregate : List Fault = when (puts_no_before_aggregate rule) NoAggregate line ++ unbound in
    let twice : List Fault = when (has_name_twice rule) NameTwice line ++ aggregate in
    let right : List Fault = when (has_nothing_right shape) NothingRight line ++ twice in
    let rows : List Fault = when (has_other_rows shape) RowsDiffer line ++ right in
    let word : List Fault = when (has_unknown_word shape) UnknownWord line ++ rows in
    also-at line (has_bad_bracket shape) BadBracket word (
    also-at line (has_unknown_word shape) UnknownWord rows (
    also-at line (has_other_rows shape) RowsDiffer right (
    also-at line (has_nothing_right shape) NothingRight twice (
    also-at line (has_name_twice rule) NameTwice aggregate (
    also-at line (puts_no_before_aggregate rule) NoAggregate unbound (
    also-at line (has_unbound rule) Unbound moves (
    also-at line (has_late_move shape) LateMove alone (
    also-at line (has_lone_plus above rule) PlusAlone late (
    also-at line (joins_other_part above rule) PlusLate ellipsis (
    when-at (has_bad_ellipsis shape) Ellipsis line))))))))))

form-at : (above : Above) (line : ℕ) (form : LineForm) → AreAt line (faults_of_form above line form)
form-at above line StartForm = when-at (starts_within above) Loop line
form-at above line EndForm = when-at (ends_without above) Loop line
form-at above line (RuleForm shape rule) = rule-at above line shape rule
form-at above line NoForm = when-at true BadBracket line

count-at : (above : Above) (line : ℕ) (form : LineForm) → AreAt line (faults_of_count above line form)
count-at above line StartForm fault has = absurd has
count-at above line EndForm fault has = absurd has
count-at above line (RuleForm shape rule) fault has = when-at (is_one_too_many above) TooManyRules line fault has
count-at above line NoForm fault has = absurd has

rule-line-at : (above : Above) (line : ℕ) (tokens : List Token) (form : LineForm) →
    AreAt line (faults_of_line above line tokens form)
rule-line-at above line tokens form =
    joined-at line (faults_of_form above line form)
    (when (has_left_out tokens) NotInProfile line ++ faults_of_count above line form) (form-at above line form)
    (also-at line (has_left_out tokens) NotInProfile (faults_of_count above line form) (count-at above line form))

row-at : (names : Names) (width place : ℕ) (row : Line) → AreAt row.number (row_faults names width place row)
row-at names width place row =
    let characters : List ℕ = take width (characters_of row) in
    let large : List Fault = when (is_too_large width place) TooLarge row.number in
    also-at row.number (list_any (is_unknown_glyph names) characters) UnknownGlyph
    (when (list_any (is_property_glyph names) characters) PropertyGlyph row.number ++ large)
    (also-at row.number (list_any (is_property_glyph names) characters) PropertyGlyph large
    (when-at (is_too_large width place) TooLarge row.number))

win-at : (names : Names) (line : Line) → AreAt line.number (win_faults_of names line)
win-at names line =
    also-at line.number (is_bad_win line) BadWin
    (when (has_unknown_name names (win_text line)) UnknownWinName line.number)
    (when-at (has_unknown_name names (win_text line)) UnknownWinName line.number)

-- sections ------------------------------------------------------------------------------------------------------------

below-told : (names : Names) (above : Above) (lines : List Line) →
    AreTold (told_below names above lines) (faults_below names above lines)
below-told names above [] = own-told (unclosed above.loop)
below-told names above (line ∷ lines) =
    let tokens : List Token = tokens_of names line in
    let form : LineForm = form_of line (tokens_kept tokens) in
    let next : Above = above_next above line.number form in
    line-first line.number (faults_of_line above line.number tokens form) (told_below names next lines)
    (faults_below names next lines) (rule-line-at above line.number tokens form) (below-told names next lines)

rows-told : (names : Names) (width place : ℕ) (rows : List Line) →
    AreTold (told_rows names width place rows) (rows_faults names width place rows)
rows-told names width place [] fault has = absurd has
rows-told names width place (row ∷ below) fault has =
    line-first row.number (row_faults names width place row) (told_rows names width (suc place) below)
    (rows_faults names width (suc place) below) (row-at names width place row)
    (rows-told names width (suc place) below) fault has

entry-told : (names : Names) (place : ℕ) (entry : EntryLines) →
    AreTold (told_entry names place entry) (entry_faults names place entry)
entry-told names place (MessageLine line) = own-told (too_many place line)
entry-told names place (LevelRows first below) =
    let width : ℕ = length (characters_of first) in
    line-first first.number (row_faults names width 0 first) (too_many place first ++ told_rows names width 1 below)
    (too_many place first ++ rows_faults names width 1 below) (row-at names width 0 first)
    (joined-told (too_many place first) (too_many place first) (told_rows names width 1 below)
    (rows_faults names width 1 below) (own-told (too_many place first)) (rows-told names width 1 below))

entries-told : (names : Names) (place : ℕ) (entries : List EntryLines) →
    AreTold (told_entries names place entries) (entries_faults names place entries)
entries-told names place [] fault has = absurd has
entries-told names place (entry ∷ others) fault has =
    joined-told (told_entry names place entry) (entry_faults names place entry)
    (told_entries names (suc place) others) (entries_faults names (suc place) others) (entry-told names place entry)
    (entries-told names (suc place) others) fault has

levels-told : (names : Names) (header : ℕ) (lines : List Line) →
    AreTold (told_levels names header lines) (level_faults names header lines)
levels-told names header lines =
    let entries : List EntryLines = entry_lines lines in
    joined-told (told_entries names 0 entries) (entries_faults names 0 entries) (told_absence header entries)
    (told_absence header entries) (entries-told names 0 entries) (own-told (told_absence header entries))

wins-told : (names : Names) (lines : List Line) → AreTold (told_wins names lines) (win_faults names lines)
wins-told names [] fault has = absurd has
wins-told names (line ∷ lines) fault has =
    line-first line.number (win_faults_of names line) (told_wins names lines) (win_faults names lines)
    (win-at names line) (wins-told names lines) fault has

-- phases --------------------------------------------------------------------------------------------------------------

rest-told : (names : Names) (lines : List Line) → AreTold (told_below_names names lines) (below_names names lines)
rest-told names lines =
    let below : List Fault = readings_below (rule_faults names (section_lines lines Rules)) names
    (rules_of_lines names lines) in
    let wins : List Fault = told_wins names (section_lines lines Wins) in
    let all : List Fault = win_faults names (section_lines lines Wins) in
    let levels : List Fault = told_levels names (header_number lines Levels) (section_lines lines Levels) in
    let each : List Fault = level_faults names (header_number lines Levels) (section_lines lines Levels) in
    joined-told (told_rules names (section_lines lines Rules)) (rule_faults names (section_lines lines Rules))
    (levels ++ (wins ++ below)) (each ++ (all ++ below))
    (below-told names nothing_above (lines_with_words (section_lines lines Rules)))
    (joined-told levels each (wins ++ below) (all ++ below)
    (levels-told names (header_number lines Levels) (section_lines lines Levels))
    (joined-told wins all below below (wins-told names (section_lines lines Wins)) (own-told below)))

or-told : (xs ys ys' : List Fault) → AreTold ys ys' → AreTold (first_or xs ys) (first_or xs ys')
or-told [] ys ys' behind fault has = behind fault has
or-told (x ∷ xs) ys ys' behind fault has = own-told (x ∷ []) fault has

lines-told : (lines : List Line) → AreTold (told_of_lines lines) (phase_of_lines lines)
lines-told lines =
    let names : Names = names_of_lines lines in
    or-told (heading_faults lines) (first_or (faults_of_names lines) (told_below_names names lines))
    (first_or (faults_of_names lines) (below_names names lines))
    (or-told (faults_of_names lines) (told_below_names names lines) (below_names names lines)
    (rest-told names lines))

text-told-by : (text : List ℕ) (fault : Option Fault) → AreTold
    (elim fault [ Some only ↦ only ∷ [] | None ↦ told_of_lines (lines_of text) ])
    (elim fault [ Some only ↦ only ∷ [] | None ↦ phase_of_lines (lines_of text) ])
text-told-by text None = lines-told (lines_of text)
text-told-by text (Some fault) = own-told (fault ∷ [])

text-told : (text : List ℕ) → AreTold (told_of_text text) (phase_faults text)
text-told text = text-told-by text (text_fault text)

-- each line once ------------------------------------------------------------------------------------------------------

with-longer : (told : List Fault) (fault : Fault) (more : Bool) →
    length told ≤ length (if more then told ++ fault ∷ [] else told)
with-longer told fault true =
    let long : length (told ++ fault ∷ []) ≡ length told + 1 = length-append told (fault ∷ []) in omega (arith, long)
with-longer told fault false = omega arith

once-longer : (most : ℕ) (told faults : List Fault) → length told ≤ length (told_once most told faults)
once-longer most told [] = omega arith
once-longer most told (fault ∷ faults) =
    let next : List Fault = told_with most told fault in
    let here : length told ≤ length next = with-longer told fault _ in
    let rest : length next ≤ length (told_once most next faults) = once-longer most next faults in
    omega (arith, here, rest)

with-keeps : (line : ℕ) (told : List Fault) (fault : Fault) (more : Bool) → list_any (at_line line) told ≡ true →
    list_any (at_line line) (if more then told ++ fault ∷ [] else told) ≡ true
with-keeps line told fault true e = any-left line told (fault ∷ []) e
with-keeps line told fault false e = e

once-keeps : (line most : ℕ) (told faults : List Fault) → list_any (at_line line) told ≡ true →
    list_any (at_line line) (told_once most told faults) ≡ true
once-keeps line most told [] e = e
once-keeps line most told (fault ∷ faults) e =
    once-keeps line most (told_with most told fault) faults (with-keeps line told fault _ e)

-- with room for it, a fault's line is told afterwards
with-tells : (told : List Fault) (fault : Fault) (found : Bool) → list_any (at_line fault.line) told ≡ found →
    list_any (at_line fault.line) (if true && not found then told ++ fault ∷ [] else told) ≡ true
with-tells told fault true e = e
with-tells told fault false e = any-right fault.line told (fault ∷ []) (own-told (fault ∷ []) fault (inl refl))

told-here : (most : ℕ) (told : List Fault) (fault : Fault) → length told < most →
    list_any (at_line fault.line) (told_with most told fault) ≡ true
told-here most told fault few =
    let room : nat_lt (length told) most ≡ true = grind (arith, nat_tests) in
    let found : Bool = list_any (at_line fault.line) told in
    ap (λ (b : Bool). list_any (at_line fault.line) (if b && not found then told ++ fault ∷ [] else told)) room
    ∙ with-tells told fault found refl

once-told : (most : ℕ) (told faults : List Fault) → length (told_once most told faults) < most →
    AreTold (told_once most told faults) faults
once-told most told [] few fault has = absurd has
once-told most told (first ∷ faults) few fault (inl same) =
    let next : List Fault = told_with most told first in
    let long : length told ≤ length (told_once most told (first ∷ faults)) = once-longer most told (first ∷ faults) in
    once-keeps fault.line most next faults
    (ap (λ (f : Fault). list_any (at_line f.line) next) (sym same)
    ∙ told-here most told first (omega (arith, few, long)))
once-told most told (first ∷ faults) few fault (inr has) =
    once-told most (told_with most told first) faults few fault has

line-by : (line : ℕ) (x : Fault) (xs told : List Fault) → AreTold told (x ∷ xs) → (b : Bool) → at_line line x ≡ b →
    b || list_any (at_line line) xs ≡ true → list_any (at_line line) told ≡ true
line-by line x xs told are true same e =
    let is : x.line ≡ line = grind (arith, nat_tests) in
    ap (λ (n : ℕ). list_any (at_line n) told) (sym is) ∙ are x (inl refl)
line-by line x [] told are false same e = absurd (let h = e in cc)
line-by line x (y ∷ ys) told are false same e =
    line-by line y ys told (λ f has. are f (inr has)) (at_line line y) refl e

-- one of a line is told where one of the line is among those that are
by-line : (line : ℕ) (faults told : List Fault) → AreTold told faults → list_any (at_line line) faults ≡ true →
    list_any (at_line line) told ≡ true
by-line line [] told are e = absurd (let h = e in cc)
by-line line (x ∷ xs) told are e = line-by line x xs told are (at_line line x) refl e

once-all : (most : ℕ) (faults all : List Fault) → length (told_once most [] faults) < most → AreTold faults all →
    AreTold (told_once most [] faults) all
once-all most faults all few told fault has =
    by-line fault.line faults (told_once most [] faults) (once-told most [] faults few) (told fault has)

pub each_line_is_told : EachLineIsTold
each_line_is_told most text fault few among =
    once-all most (told_of_text text) (phase_faults text) few (text-told text) fault
    (among-has (phase_faults text) fault among)
