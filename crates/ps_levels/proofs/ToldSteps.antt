-- The told faults of LEVELS and WINCONDITIONS, a line or an entry further.
use Rattle.std.proofs.Common.{◌≡◌, ℕ, suc, ◌+◌, Bool, true, false, ◌||◌, List, [], ◌∷◌, ◌++◌, length, flat_map, refl, sym}
use Rattle.std.proofs.Common.{map, take, Option, ap, ◌∙◌, append_assoc, arith}
use Rattle.std.specs.Prelude.{not, nat_eq}
use Rattle.std.specs.List.{list_any, take-map}
use Rattle.std.proofs.lemmas.Bool.Decides.{nat_tests}
use Rattle.std.proofs.lemmas.Grind.{flat_map-append}
use Rattle.std.proofs.lemmas.List.{append-nil}
use Rattle.ps_model.specs.declared.faults.Fault.{Fault}
use Rattle.ps_model.specs.declared.faults.FaultKind.TheVariants.{TooManyEntries, NoLevel}
use Rattle.ps_model.specs.declared.limits.TheConstants.{ENTRY_LIMIT}
use Rattle.ps_model.specs.text.Faults.{when}
use Rattle.ps_model.specs.text.Lines.{Line}
use Rattle.std.specs.Borrow.{Bor}
use Rattle.ps_model.specs.names.Names.{Meaning, Names}
use Rattle.ps_names.specs.declared.meaning.Meaning as code
use Rattle.ps_levels.specs.Cells.{meaning_seen, meanings_shown}
use Rattle.ps_levels.specs.RowFaults.{faults_of_meanings}
use Rattle.ps_levels.proofs.RowSteps.{faults-by-meanings}
use Rattle.ps_model.specs.session.LevelLines.{EntryLines, LevelRows, characters_of}
use Rattle.ps_model.specs.session.LevelFaults.{too_many, are_level_lines, character_meaning, row_faults}
use Rattle.ps_levels.specs.ToldLevels.{told_row, told_rows, told_entry, told_entries, told_absence}

-- the told faults of some lines, before those of the lines below
pub lines-told : (f : Line → List Fault) (before now : List Fault) (all lines rest : List Line) →
    all ≡ lines ++ rest → now ≡ before ++ flat_map f lines → now ++ flat_map f rest ≡ before ++ flat_map f all
lines-told f before now all lines rest split e =
    ap (λ (told : List Fault). told ++ flat_map f rest) e
    ∙ append_assoc before (flat_map f lines) (flat_map f rest)
    ∙ ap (λ (told : List Fault). before ++ told) (sym (ap (flat_map f) split ∙ flat_map-append f lines rest))

-- a row more
pub row-told : (names : Names) (width above next : ℕ) (row : Line) (before now : List Fault) (lines rest : List Line) →
    next ≡ above + 1 → lines ≡ row ∷ [] → now ≡ before ++ told_row names width above row →
    now ++ told_rows names width next rest ≡ before ++ told_rows names width above (lines ++ rest)
row-told names width above next row before now lines rest n only e =
    let further : next ≡ suc above = omega (arith, n) in
    ap (λ (k : ℕ). now ++ told_rows names width k rest) further
    ∙ ap (λ (told : List Fault). told ++ told_rows names width (suc above) rest) e
    ∙ append_assoc before (told_row names width above row) (told_rows names width (suc above) rest)
    ∙ ap (λ (ls : List Line). before ++ told_rows names width above (ls ++ rest)) (sym only)

-- one entry too many
pub over-told : (place number : ℕ) (first : Line) → place ≡ ENTRY_LIMIT → first.number ≡ number →
    record { kind = TooManyEntries; line = number } ∷ [] ≡ too_many place first
over-told place number first p n =
    let over : nat_eq place ENTRY_LIMIT ≡ true = grind (arith, nat_tests) in
    rw (over, n) refl

-- the parts of a level
pub level-told : (names : Names) (above width : ℕ) (first : Line) (below rows : List Line)
    (before one two all : List Fault) → width ≡ length (characters_of first) → below ≡ rows →
    one ≡ before ++ told_row names width 0 first → two ≡ one ++ too_many above first →
    all ≡ two ++ told_rows names width 1 rows → all ≡ before ++ told_entry names above (LevelRows first below)
level-told names above width first below rows before one two all w same a b c =
    let rest : List Fault = told_rows names width 1 rows in
    c ∙ ap (λ (told : List Fault). told ++ rest) (b ∙ ap (λ (told : List Fault). told ++ too_many above first) a)
    ∙ append_assoc (before ++ told_row names width 0 first) (too_many above first) rest
    ∙ append_assoc before (told_row names width 0 first) (too_many above first ++ rest)
    ∙ ap (λ (k : ℕ). before ++ (told_row names k 0 first ++ (too_many above first ++ told_rows names k 1 rows))) w
    ∙ ap (λ (ls : List Line). before ++ told_entry names above (LevelRows first ls)) (sym same)

-- an entry more
pub entry-told : (names : Names) (above next : ℕ) (all rest : List EntryLines) (found : EntryLines)
    (before now : List Fault) → all ≡ found ∷ rest → next ≡ above + 1 → now ≡ before ++ told_entry names above found →
    now ++ told_entries names next rest ≡ before ++ told_entries names above all
entry-told names above next all rest found before now split n e =
    let further : next ≡ suc above = omega (arith, n) in
    ap (λ (k : ℕ). now ++ told_entries names k rest) further
    ∙ ap (λ (told : List Fault). told ++ told_entries names (suc above) rest) e
    ∙ append_assoc before (told_entry names above found) (told_entries names (suc above) rest)
    ∙ ap (λ (es : List EntryLines). before ++ told_entries names above es) (sym split)

or-true : (b : Bool) → true ≡ b || true
or-true true = refl
or-true false = refl

-- a level is one
pub has-level : (has : Bool) (all rest : List EntryLines) (first : Line) (below : List Line) →
    all ≡ LevelRows first below ∷ rest →
    true || list_any are_level_lines rest ≡ has || list_any are_level_lines all
has-level has all rest first below split =
    or-true has ∙ ap (λ (es : List EntryLines). has || list_any are_level_lines es) (sym split)

or-false : (b : Bool) → b ≡ b || false
or-false true = refl
or-false false = refl

-- all entries, and that none is a level
pub all-told : (names : Names) (header above : ℕ) (has : Bool) (entries left : List EntryLines) (told now : List Fault) →
    left ≡ [] → told ++ told_entries names above left ≡ told_entries names 0 entries →
    has || list_any are_level_lines left ≡ list_any are_level_lines entries →
    now ≡ told ++ when (not has) NoLevel header →
    now ≡ told_entries names 0 entries ++ told_absence header entries
all-told names header above has entries left told now none e level absence =
    let whole : told ≡ told_entries names 0 entries =
    sym (append-nil told) ∙ ap (λ (es : List EntryLines). told ++ told_entries names above es) (sym none) ∙ e in
    let some : has ≡ list_any are_level_lines entries =
    or-false has ∙ ap (λ (es : List EntryLines). has || list_any are_level_lines es) (sym none) ∙ level in
    absence ∙ ap (λ (fs : List Fault). fs ++ when (not has) NoLevel header) whole
    ∙ ap (λ (b : Bool). told_entries names 0 entries ++ when (not b) NoLevel header) some

-- the faults of a row by what its characters up to the width stand for
pub faults-of-front : (names : Names) (width place number : ℕ) (row : Line) (characters : List ℕ)
    (found seen : List (Option (Bor code.Meaning))) → characters ≡ characters_of row → row.number ≡ number →
    meanings_shown found ≡ map (character_meaning names) characters → seen ≡ take width found →
    faults_of_meanings (meanings_shown seen) width place number ≡ row_faults names width place row
faults-of-front names width place number row characters found seen e n f s =
    let shown : meanings_shown seen ≡ map (character_meaning names) (take width (characters_of row)) =
    ap meanings_shown s ∙ sym (take-map meaning_seen width found) ∙ ap (take width) f
    ∙ take-map (character_meaning names) width characters
    ∙ ap (λ (cs : List ℕ). map (character_meaning names) (take width cs)) e in
    ap (λ (ms : List (Option Meaning)). faults_of_meanings ms width place number) shown
    ∙ ap (λ (k : ℕ). faults_of_meanings (map (character_meaning names) (take width (characters_of row))) width place k)
    (sym n) ∙ faults-by-meanings names width place row
