-- A row of a level, and rows one below the other.
use Rattle.std.proofs.Common.{◌≡◌, ℕ, suc, ◌+◌, ◌≤◌, Bool, List, [], ◌∷◌, ◌++◌, length, map, take, Option, Some, refl}
use Rattle.std.proofs.Common.{sym, ap, ◌∙◌, append_assoc, arith}
use Rattle.std.specs.List.{list_any, take-map}
use Rattle.std.proofs.lemmas.List.{map-append, length-map, length-append}
use Rattle.std.proofs.lemmas.Grind.{common_steps}
use Rattle.std.proofs.lemmas.Simd.{map-map}
use Rattle.ps_model.specs.declared.faults.Fault.{Fault}
use Rattle.ps_model.specs.declared.faults.FaultKind.TheVariants.{UnknownGlyph, PropertyGlyph, TooLarge}
use Rattle.ps_model.specs.text.Faults.{first_fault, when}
use Rattle.ps_model.specs.text.Lines.{Line}
use Rattle.ps_model.specs.names.Names.{Names, Meaning}
use Rattle.ps_model.specs.session.LevelLines.{characters_of, of_width, row_cells}
use Rattle.ps_model.specs.session.LevelFaults.{character_meaning, is_unknown_glyph, is_too_large, row_faults}
use Rattle.ps_model.specs.session.LevelFaults.{rows_faults}
use Rattle.ps_model.specs.names.Meanings.{is_property}
use Rattle.std.specs.Borrow.{Bor}
use Rattle.ps_names.specs.declared.meaning.Meaning as code
use Rattle.ps_levels.specs.Cells.{is_unknown, objects_of, meaning_seen, meanings_shown}
use Rattle.ps_levels.specs.RowFaults.{faults_of_meanings}
use Rattle.ps_laws.proofs.common.FirstFaults.{first-front}
use Rattle.ps_laws.proofs.common.Lists.{any-map}

-- the faults of a row by what its characters stand for
pub faults-by-meanings : (names : Names) (width place : ℕ) (row : Line) →
    faults_of_meanings (map (character_meaning names) (take width (characters_of row))) width place row.number ≡
    row_faults names width place row
faults-by-meanings names width place row =
    let characters : List ℕ = take width (characters_of row) in
    ap (λ (unknown : Bool). when unknown UnknownGlyph row.number ++
    (when (list_any is_property (map (character_meaning names) characters)) PropertyGlyph row.number ++ when
    (is_too_large width place) TooLarge row.number)) (any-map is_unknown (character_meaning names) characters)
    ∙ ap (λ (property : Bool). when (list_any (is_unknown_glyph names) characters) UnknownGlyph row.number ++
    (when property PropertyGlyph row.number ++ when (is_too_large width place) TooLarge row.number))
    (any-map is_property (character_meaning names) characters)

-- the cells of a row by what its characters stand for
pub cells-by-meanings : (names : Names) (width : ℕ) (row : Line) →
    map objects_of (map (character_meaning names) (of_width width (characters_of row))) ≡ row_cells names width row
cells-by-meanings names width row = map-map objects_of (character_meaning names) (of_width width (characters_of row))

pub front-short : (width count : ℕ) (characters fill : List ℕ) → count ≡ length characters → count ≤ width →
    take count (take width (characters ++ fill)) ≡ take width characters
front-short width count characters fill e h = grind (arith, common_steps)

pub front-long : (width : ℕ) (characters fill : List ℕ) → width ≤ length characters →
    take width (take width (characters ++ fill)) ≡ take width characters
front-long width characters fill h = grind (arith, common_steps)

-- the faults of a row by what its own characters up to the width stand for, the first of those found
pub faults-seen : (names : Names) (width place count number : ℕ) (row : Line) (characters : List ℕ)
    (found seen : List (Option (Bor code.Meaning))) → characters ≡ characters_of row → row.number ≡ number →
    take count (of_width width characters) ≡ take width characters →
    meanings_shown found ≡ map (character_meaning names) (of_width width characters) → seen ≡ take count found →
    faults_of_meanings (meanings_shown seen) width place number ≡ row_faults names width place row
faults-seen names width place count number row characters found seen e n written f s =
    let shown : meanings_shown seen ≡ map (character_meaning names) (take width (characters_of row)) =
    ap meanings_shown s ∙ sym (take-map meaning_seen count found) ∙ ap (take count) f
    ∙ take-map (character_meaning names) count (of_width width characters)
    ∙ ap (map (character_meaning names)) (written ∙ ap (take width) e) in
    ap (λ (ms : List (Option Meaning)). faults_of_meanings ms width place number) shown
    ∙ ap (λ (k : ℕ). faults_of_meanings (map (character_meaning names) (take width (characters_of row))) width place k)
    (sym n) ∙ faults-by-meanings names width place row

-- the faults of rows, of which the first come before the others
pub rows-append : (names : Names) (width place : ℕ) (rows others : List Line) →
    rows_faults names width place (rows ++ others) ≡ rows_faults names width place rows ++ rows_faults names width
    (place + length rows) others
rows-append names width place [] others = let e : place + 0 ≡ place = omega arith in rw e refl
rows-append names width place (row ∷ rows) others =
    let e : suc place + length rows ≡ place + suc (length rows) = omega arith in
    ap (λ (faults : List Fault). row_faults names width place row ++ faults)
    (rows-append names width (suc place) rows others
    ∙ ap (λ (k : ℕ). rows_faults names width (suc place) rows ++ rows_faults names width k others) e)
    ∙ sym (append_assoc (row_faults names width place row) (rows_faults names width (suc place) rows)
    (rows_faults names width (place + suc (length rows)) others))

-- the faults of the first rows, and of others below those
pub first-of-rows : (names : Names) (width place : ℕ) (all rows others : List Line) (fault : Fault) →
    all ≡ rows ++ others → first_fault (rows_faults names width place rows) ≡ Some fault →
    first_fault (rows_faults names width place all) ≡ Some fault
first-of-rows names width place all rows others fault split e =
    ap (λ (ls : List Line). first_fault (rows_faults names width place ls)) split
    ∙ ap first_fault (rows-append names width place rows others)
    ∙ first-front (rows_faults names width place rows) (rows_faults names width (place + length rows) others) fault e

pub none-of-rows : (names : Names) (width place next : ℕ) (all rows others : List Line) → all ≡ rows ++ others →
    next ≡ place + length rows → rows_faults names width place rows ≡ [] →
    rows_faults names width next others ≡ rows_faults names width place all
none-of-rows names width place next all rows others split n e =
    ap (λ (k : ℕ). rows_faults names width k others) n
    ∙ sym (ap (rows_faults names width place) split ∙ rows-append names width place rows others
    ∙ ap (λ (faults : List Fault). faults ++ rows_faults names width (place + length rows) others) e)

-- the rows above, those of some lines, and those of the lines below
pub rows-more : {A : Type 0} (reads : Line → A) (before now : List A) (all lines rest : List Line) →
    all ≡ lines ++ rest → now ≡ before ++ map reads lines → now ++ map reads rest ≡ before ++ map reads all
rows-more reads before now all lines rest split e =
    ap (λ (rs : List _). rs ++ map reads rest) e ∙ append_assoc before (map reads lines) (map reads rest)
    ∙ ap (λ (rs : List _). before ++ rs) (sym (ap (map reads) split ∙ map-append reads lines rest))

pub rows-counted : {A B C : Type 0} (shows : A → B) (reads : C → B) (before now : List A) (lines : List C) →
    map shows now ≡ map shows before ++ map reads lines → length now ≡ length before + length lines
rows-counted shows reads before now lines e =
    sym (length-map now shows) ∙ ap length e ∙ length-append (map shows before) (map reads lines)
    ∙ ap (λ (k : ℕ). k + length (map reads lines)) (length-map before shows)
    ∙ ap (λ (k : ℕ). length before + k) (length-map lines reads)
