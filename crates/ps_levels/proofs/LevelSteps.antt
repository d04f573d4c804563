-- A level and its faults, by its first row and those below it.
use Rattle.std.proofs.Common.{◌≡◌, ℕ, suc, ◌+◌, ◌<◌, ◌≤◌, true, false, List, [], ◌∷◌, ◌++◌, length, map, Some, refl}
use Rattle.std.proofs.Common.{sym, ap, ◌∙◌, arith}
use Rattle.std.specs.Prelude.{nat_eq}
use Rattle.std.proofs.lemmas.Bool.Decides.{nat_tests}
use Rattle.std.proofs.lemmas.List.{append-nil}
use Rattle.ps_model.specs.declared.faults.Fault.{Fault}
use Rattle.ps_model.specs.declared.faults.FaultKind.TheVariants.{TooManyEntries}
use Rattle.ps_model.specs.text.Faults.{first_fault}
use Rattle.ps_model.specs.declared.limits.TheConstants.{SIDE_LIMIT, ENTRY_LIMIT}
use Rattle.ps_model.specs.text.Lines.{Line, lines_of}
use Rattle.ps_model.specs.text.LineNumbers.{line_at, lines_between}
use Rattle.ps_model.specs.names.Names.{Names}
use Rattle.ps_model.specs.session.LevelFaults.{row_faults, rows_faults, too_many}
use Rattle.ps_model.specs.declared.pieces.ObjectId.{ObjectId}
use Rattle.ps_model.specs.board.Levels.{grounded}
use Rattle.ps_model.specs.session.LevelLines.{LevelEntry, LevelRows, characters_of, row_cells, in_columns, level_of}
use Rattle.ps_model.specs.session.LevelLines.{entry_of_lines}
use Rattle.ps_model.specs.text.LineNumbers.{here}
use Rattle.ps_laws.proofs.common.Lists.{none-behind}
use Rattle.ps_laws.proofs.texts.LevelLimits.{rows-fit}
use Rattle.ps_levels.specs.RowFaults.{level_faults_by}
use Rattle.ps_laws.proofs.common.LinesInOrder.{between-step, between-end, here-there}
use Rattle.ps_laws.proofs.common.FirstFaults.{first-front, behind-none}

pub level-low : (names : Names) (width place : ℕ) (first : Line) (below : List Line) →
    level_faults_by names width place first below ≡ [] → suc (length below) ≤ SIDE_LIMIT
level-low names width place first below e =
    let others : List Fault = rows_faults names width 1 below in
    let behind : List Fault = too_many place first ++ others in
    let fits : 1 + length below ≤ SIDE_LIMIT =
    rows-fit names width 1 below (omega arith)
    (none-behind (too_many place first) others (none-behind (row_faults names width 0 first) behind e)) in
    omega (arith, fits)

-- a line that is there alone
pub one-line : (text : List ℕ) (line next : ℕ) → 1 ≤ line → line < length (lines_of text) + 1 → next ≡ line + 1 →
    (line_at text line).is_there ≡ true → lines_between text line next ≡ line_at text line ∷ []
one-line text line next one less e there =
    between-step text line next next one (omega arith) (omega arith) e
    ∙ ap (λ (rest : List Line). here text line ++ rest) (between-end text next next (omega arith))
    ∙ append-nil (here text line) ∙ here-there text line there

-- a fault of the first row
pub fault-in-first : (names : Names) (width place : ℕ) (first : Line) (below lines : List Line) (fault : Fault) →
    lines ≡ first ∷ [] → first_fault (rows_faults names width 0 lines) ≡ Some fault →
    first_fault (level_faults_by names width place first below) ≡ Some fault
fault-in-first names width place first below lines fault one e =
    first-front (row_faults names width 0 first) (too_many place first ++ rows_faults names width 1 below) fault
    (ap first_fault (sym (ap (rows_faults names width 0) one ∙ append-nil (row_faults names width 0 first))) ∙ e)

-- no fault of the first row
pub first-fine : (names : Names) (width : ℕ) (first : Line) (lines : List Line) → lines ≡ first ∷ [] →
    rows_faults names width 0 lines ≡ [] → row_faults names width 0 first ≡ []
first-fine names width first lines one e = sym (append-nil (row_faults names width 0 first))
    ∙ sym (ap (rows_faults names width 0) one) ∙ e

-- the entry over the limit
pub fault-of-place : (names : Names) (width place number : ℕ) (first : Line) (below : List Line) →
    row_faults names width 0 first ≡ [] → place ≡ ENTRY_LIMIT → first.number ≡ number →
    first_fault (level_faults_by names width place first below) ≡ Some (record { kind = TooManyEntries; line = number })
fault-of-place names width place number first below e p n =
    let over : nat_eq place ENTRY_LIMIT ≡ true = grind (arith, nat_tests) in
    ap first_fault (behind-none (row_faults names width 0 first)
    (too_many place first ++ rows_faults names width 1 below) e) ∙ rw (over, n) refl

-- only rows below the first may have faults
pub faults-below : (names : Names) (width place : ℕ) (first : Line) (below : List Line) →
    row_faults names width 0 first ≡ [] → nat_eq place ENTRY_LIMIT ≡ false →
    level_faults_by names width place first below ≡ rows_faults names width 1 below
faults-below names width place first below e p =
    behind-none (row_faults names width 0 first) (too_many place first ++ rows_faults names width 1 below) e ∙ rw p refl

-- a level by its parts
pub level-made : (names : Names) (width height : ℕ) (cells : List (List ObjectId)) (first : Line) (below : List Line) →
    width ≡ length (characters_of first) → height ≡ length (first ∷ below) →
    cells ≡ grounded names (in_columns width (map (row_cells names width) (first ∷ below))) →
    LevelEntry (record { width = width; height = height; cells = cells }) ≡ entry_of_lines names (LevelRows first below)
level-made names width height cells first below w h c =
    ap (λ (n : ℕ). LevelEntry (record { width = width; height = n; cells = cells })) h
    ∙ ap (λ (cs : List (List ObjectId)). LevelEntry
    (record { width = width; height = length (first ∷ below); cells = cs })) c
    ∙ ap (λ (n : ℕ). LevelEntry (level_of names n (first ∷ below))) w
