-- Entries of LEVELS, an entry further.
use Rattle.std.proofs.Common.{◌≡◌, ◌≢◌, ℕ, suc, ◌+◌, ◌<◌, ◌≤◌, Bool, true, false, ◌&&◌, List, [], ◌∷◌, ◌++◌, length}
use Rattle.std.proofs.Common.{map, Some, refl, sym, ap, ◌∙◌, append_assoc, arith}
use Rattle.std.specs.Prelude.{not, nat_eq}
use Rattle.std.specs.List.{take_while, list_any}
use Rattle.std.proofs.lemmas.Bool.Decides.{nat_tests}
use Rattle.std.proofs.lemmas.List.{length-map, length-append, map-append}
use Rattle.ps_model.specs.declared.faults.Fault.{Fault}
use Rattle.ps_model.specs.declared.faults.FaultKind.TheVariants.{TooManyEntries, NoLevel}
use Rattle.ps_model.specs.text.Faults.{first_fault, when}
use Rattle.ps_model.specs.declared.limits.TheConstants.{ENTRY_LIMIT}
use Rattle.ps_model.specs.text.Lines.{Line, lines_of, is_blank_line}
use Rattle.ps_model.specs.text.LineNumbers.{line_at, lines_between}
use Rattle.ps_model.specs.names.Names.{Names}
use Rattle.ps_model.specs.session.LevelLines.{Entry, EntryLines, MessageLine, LevelRows, is_message, is_row, entries_at}
use Rattle.ps_model.specs.session.LevelLines.{entry_lines, entry_of_lines, entries_read}
use Rattle.ps_model.specs.session.LevelFaults.{too_many, entry_faults, entries_faults, are_level_lines, level_faults}
use Rattle.ps_levels.specs.EntriesShown.{is_level_entry, level_lines}
use Rattle.ps_laws.proofs.common.LinesInOrder.{between-step, here-there, here-not}
use Rattle.ps_laws.proofs.common.FirstFaults.{first-front}

entry_above : (message blank : Bool) (line : Line) (below : List Line) → message ≡ true →
    (elim message as (λ b. List EntryLines) [
      | true ↦ MessageLine line ∷ []
      | false ↦ elim
          ((not blank && not message) && not false) as (λ b.
          List EntryLines) [ true ↦ LevelRows line (take_while is_row below) ∷ [] | false ↦ [] ]
    ])
    ++ entries_at (not blank && not message) below ≡ MessageLine line ∷ entries_at false below
entry_above true true line below e = refl
entry_above true false line below e = refl
entry_above false blank line below e = absurd (let f = e in cc)

entry_blank : (message blank : Bool) (line : Line) (below : List Line) → message ≡ false → blank ≡ true →
    (elim message as (λ b. List EntryLines) [
      | true ↦ MessageLine line ∷ []
      | false ↦ elim
          ((not blank && not message) && not false) as (λ b.
          List EntryLines) [ true ↦ LevelRows line (take_while is_row below) ∷ [] | false ↦ [] ]
    ])
    ++ entries_at (not blank && not message) below ≡ entries_at false below
entry_blank true blank line below e f = absurd (let g = e in cc)
entry_blank false true line below e f = refl
entry_blank false false line below e f = absurd (let g = f in cc)

entry_row : (message blank : Bool) (line : Line) (below : List Line) → message ≡ false → blank ≡ false →
    (elim message as (λ b. List EntryLines) [
      | true ↦ MessageLine line ∷ []
      | false ↦ elim
          ((not blank && not message) && not false) as (λ b.
          List EntryLines) [ true ↦ LevelRows line (take_while is_row below) ∷ [] | false ↦ [] ]
    ])
    ++ entries_at (not blank && not message) below ≡ LevelRows line (take_while is_row below) ∷ entries_at true below
entry_row true blank line below e f = absurd (let g = e in cc)
entry_row false true line below e f = absurd (let g = f in cc)
entry_row false false line below e f = refl

first_there : (text : List ℕ) (line end : ℕ) → 1 ≤ line → line < end → end ≤ length (lines_of text) + 1 →
    (line_at text line).is_there ≡ true →
    entry_lines (lines_between text line end) ≡ entry_lines (line_at text line ∷ lines_between text (line + 1) end)
first_there text line end one less within there =
    ap entry_lines (between-step text line (line + 1) end one less within refl
    ∙ ap (λ (first : List Line). first ++ lines_between text (line + 1) end) (here-there text line there))

-- a line that isn't there
pub past-missing : (text : List ℕ) (line end : ℕ) → 1 ≤ line → line < end → end ≤ length (lines_of text) + 1 →
    (line_at text line).is_there ≡ false →
    entry_lines (lines_between text line end) ≡ entry_lines (lines_between text (line + 1) end)
past-missing text line end one less within there =
    ap entry_lines (between-step text line (line + 1) end one less within refl
    ∙ ap (λ (first : List Line). first ++ lines_between text (line + 1) end) (here-not text line there))

-- a message
pub past-message : (text : List ℕ) (line end : ℕ) → 1 ≤ line → line < end → end ≤ length (lines_of text) + 1 →
    (line_at text line).is_there ≡ true → is_message (line_at text line) ≡ true →
    entry_lines (lines_between text line end) ≡ MessageLine (line_at text line) ∷ entry_lines
    (lines_between text (line + 1) end)
past-message text line end one less within there message =
    first_there text line end one less within there
    ∙ entry_above (is_message (line_at text line)) (is_blank_line (line_at text line)) (line_at text line)
    (lines_between text (line + 1) end) message

-- a blank line
pub past-blank : (text : List ℕ) (line end : ℕ) → 1 ≤ line → line < end → end ≤ length (lines_of text) + 1 →
    (line_at text line).is_there ≡ true → is_message (line_at text line) ≡ false →
    is_blank_line (line_at text line) ≡ true →
    entry_lines (lines_between text line end) ≡ entry_lines (lines_between text (line + 1) end)
past-blank text line end one less within there message blank =
    first_there text line end one less within there
    ∙ entry_blank (is_message (line_at text line)) (is_blank_line (line_at text line)) (line_at text line)
    (lines_between text (line + 1) end) message blank

-- a level, and what begins below its first row
pub first-of-level : (text : List ℕ) (line end : ℕ) → 1 ≤ line → line < end → end ≤ length (lines_of text) + 1 →
    (line_at text line).is_there ≡ true → is_message (line_at text line) ≡ false →
    is_blank_line (line_at text line) ≡ false →
    entry_lines (lines_between text line end) ≡ level_lines text line end ∷ entries_at true
    (lines_between text (line + 1) end)
first-of-level text line end one less within there message blank =
    first_there text line end one less within there
    ∙ entry_row (is_message (line_at text line)) (is_blank_line (line_at text line)) (line_at text line)
    (lines_between text (line + 1) end) message blank

-- a level, and what begins after it
pub past-level : (text : List ℕ) (line next end : ℕ) → 1 ≤ line → line < end → end ≤ length (lines_of text) + 1 →
    (line_at text line).is_there ≡ true → is_message (line_at text line) ≡ false →
    is_blank_line (line_at text line) ≡ false →
    entries_at true (lines_between text (line + 1) end) ≡ entry_lines (lines_between text next end) →
    entry_lines (lines_between text line end) ≡ level_lines text line end ∷ entry_lines (lines_between text next end)
past-level text line next end one less within there message blank rest =
    first-of-level text line end one less within there message blank
    ∙ ap (λ (entries : List EntryLines). level_lines text line end ∷ entries) rest

-- an entry more
pub entry-more : (names : Names) (before now : List Entry) (all rest : List EntryLines) (found : EntryLines) →
    all ≡ found ∷ rest → now ≡ before ++ entry_of_lines names found ∷ [] →
    now ++ map (entry_of_lines names) rest ≡ before ++ map (entry_of_lines names) all
entry-more names before now all rest found split e =
    ap (λ (es : List Entry). es ++ map (entry_of_lines names) rest) e
    ∙ append_assoc before (entry_of_lines names found ∷ []) (map (entry_of_lines names) rest)
    ∙ ap (λ (es : List EntryLines). before ++ map (entry_of_lines names) es) (sym split)

pub entries-counted : {A B : Type 0} (shows : A → B) (before now : List A) (one : B) →
    map shows now ≡ map shows before ++ one ∷ [] → length now ≡ suc (length before)
entries-counted shows before now one e =
    let long : length now ≡ length before + 1 = sym (length-map now shows) ∙ ap length e
    ∙ length-append (map shows before) (one ∷ []) ∙ ap (λ (k : ℕ). k + 1) (length-map before shows) in
    omega (arith, long)

-- its faults come first
pub fault-of-entry : (names : Names) (place : ℕ) (all rest : List EntryLines) (found : EntryLines) (fault : Fault) →
    all ≡ found ∷ rest → first_fault (entry_faults names place found) ≡ Some fault →
    first_fault (entries_faults names place all) ≡ Some fault
fault-of-entry names place all rest found fault split e =
    ap (λ (es : List EntryLines). first_fault (entries_faults names place es)) split
    ∙ first-front (entry_faults names place found) (entries_faults names (suc place) rest) fault e

pub fine-entry : (names : Names) (place next : ℕ) (all rest : List EntryLines) (found : EntryLines) →
    all ≡ found ∷ rest → next ≡ suc place → entry_faults names place found ≡ [] →
    entries_faults names next rest ≡ entries_faults names place all
fine-entry names place next all rest found split n e =
    ap (λ (k : ℕ). entries_faults names k rest) n
    ∙ sym (ap (entries_faults names place) split
    ∙ ap (λ (faults : List Fault). faults ++ entries_faults names (suc place) rest) e)

-- the entry over the limit
pub over-limit : (place number : ℕ) (first : Line) → place ≡ ENTRY_LIMIT → first.number ≡ number →
    first_fault (too_many place first) ≡ Some (record { kind = TooManyEntries; line = number })
over-limit place number first p n =
    let over : nat_eq place ENTRY_LIMIT ≡ true = grind (arith, nat_tests) in
    rw (over, n) refl

pub under-limit : (place : ℕ) (first : Line) → place ≢ ENTRY_LIMIT → too_many place first ≡ []
under-limit place first apart =
    let under : nat_eq place ENTRY_LIMIT ≡ false = grind (arith, nat_tests) in
    rw under refl

-- one more entry, as it is meant
pub shown-more : {A B : Type 0} (shows : A → B) (before now : List A) (one : A) (meant : B) → now ≡ before ++ one ∷ [] →
    shows one ≡ meant → map shows now ≡ map shows before ++ meant ∷ []
shown-more shows before now one meant e h =
    ap (map shows) e ∙ map-append shows before (one ∷ []) ∙ ap (λ m. map shows before ++ m ∷ []) h

level_by : (names : Names) (entry : EntryLines) → is_level_entry (entry_of_lines names entry) ≡ are_level_lines entry
level_by names (MessageLine line) = refl
level_by names (LevelRows first below) = refl

-- a level is among the entries
pub levels-among : (names : Names) (entries : List EntryLines) →
    list_any is_level_entry (map (entry_of_lines names) entries) ≡ list_any are_level_lines entries
levels-among names [] = refl
levels-among names (entry ∷ entries) = rw (level_by names entry, levels-among names entries) refl

-- a text without faults up to its last entry, with a level
pub levels-fine : (names : Names) (header : ℕ) (lines : List Line) (shown : List Entry) →
    entries_faults names 0 (entry_lines lines) ≡ [] → shown ≡ entries_read names lines →
    list_any is_level_entry shown ≡ true → level_faults names header lines ≡ []
levels-fine names header lines shown e s h =
    let found : list_any are_level_lines (entry_lines lines) ≡ true = sym (levels-among names (entry_lines lines))
    ∙ ap (list_any is_level_entry) (sym s) ∙ h in
    ap (λ (faults : List Fault). faults ++ when (not (list_any are_level_lines (entry_lines lines))) NoLevel header) e
    ∙ ap (λ (b : Bool). when (not b) NoLevel header) found

-- and without one
pub no-level : (names : Names) (header : ℕ) (lines : List Line) (shown : List Entry) →
    entries_faults names 0 (entry_lines lines) ≡ [] → shown ≡ entries_read names lines →
    list_any is_level_entry shown ≡ false →
    first_fault (level_faults names header lines) ≡ Some (record { kind = NoLevel; line = header })
no-level names header lines shown e s h =
    let none : list_any are_level_lines (entry_lines lines) ≡ false = sym (levels-among names (entry_lines lines))
    ∙ ap (list_any is_level_entry) (sym s) ∙ h in
    ap (λ (faults : List Fault). first_fault (faults ++ when (not (list_any are_level_lines (entry_lines lines)))
    NoLevel header)) e ∙ ap (λ (b : Bool). first_fault (when (not b) NoLevel header)) none
