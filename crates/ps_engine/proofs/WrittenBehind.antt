-- Cells of a board that lie so many steps from columns that are kept, written row by row.
use Rattle.std.proofs.Common.{◌≡◌, ◌≢◌, ◌∙◌, ℕ, ◌+◌, ◌-◌, ◌*◌, ◌/◌, ◌%◌, ◌<◌, ◌≤◌, ◌||◌, ◌&&◌, inl, inr, Bool, true}
use Rattle.std.proofs.Common.{false, not, List, [], ◌∷◌, length, refl, sym, ap, ap₂, arith}
use Rattle.std.specs.Prelude.{nat_eq, nat_le, slice_index_or}
use Rattle.std.proofs.Math.Bool.{and-false, or-false}
use Rattle.std.proofs.lemmas.Bool.{and_parts, cases_eq, eqb-true, eq-eqb, ne_eqb, or_right}
use Rattle.std.proofs.lemmas.Bool.Decides.{nat_tests}
use Rattle.std.proofs.lemmas.Nat.{div_below, mod_below}
use Rattle.ps_model.specs.declared.limits.TheConstants.{SIDE_LIMIT}
use Rattle.ps_model.specs.declared.pieces.Slot.{Slot}
use Rattle.ps_model.specs.board.Grid.{Grid, IsGrid}
use Rattle.ps_model.specs.board.Attempts.{Rewritten}
use Rattle.ps_board.specs.ColumnSets.{column_at, columns_ahead, set_columns}
use Rattle.ps_board.proofs.ColumnLaws.{column_at-where, first_in, none_in}
use Rattle.ps_board.proofs.Taken.{taken_gone, taken_out}
use Rattle.ps_match.specs.Together.{rewritten_where}
use Rattle.ps_match.proofs.Chosen.{where-agree, where-none}
use Rattle.ps_match.proofs.RowWritten.{told, told-more}
use Rattle.ps_program.specs.declared.rows.Axis.{Axis}
use Rattle.ps_program.specs.declared.rows.Axis.TheVariants.{Down, Right}
use Rattle.ps_places.specs.PartTargets.{is_kept, position_of}
use Rattle.ps_engine.specs.Writing.{is_behind, is_written, start_column, start_row}
use Rattle.ps_places.proofs.RowsTogether.{true_le}

-- the rows that are left are some of them
pub record AreOf (rows left : List Bool) : Type 0 where
  pub at : (row : ℕ) → row < SIDE_LIMIT → column_at left row ≡ true → column_at rows row ≡ true

pub all-of : (rows : List Bool) → AreOf rows rows
all-of rows = record { at = λ row low is. is }

pub fewer-of : (rows set left : List Bool) (k : ℕ) → set_columns set ≡ k ∷ set_columns left → AreOf rows set →
    AreOf rows left
fewer-of rows set left k is all =
    record {
      at = λ row low there. all.at row low (taken_out set left k row is low ∙ or_right (nat_eq row k)
          (column_at left row) there);
    }

-- the cells that are written but for those of the rows that are left
abbrev pub passed_by : Axis → ℕ → ℕ → List Bool → List (List Bool) → List Bool → ℕ → Bool
passed_by axis height steps rows starts left n = not (column_at left
    (start_row axis height steps n)) && is_written axis height steps rows starts n

-- the row that a cell is written from
behind_start : (axis : Axis) (height steps row : ℕ) (columns : List Bool) (n : ℕ) →
    is_behind axis height steps row columns n ≡ true →
    start_row axis height steps n ≡ row
behind_start Down height steps row columns n is =
    let both = and_parts (nat_eq (n % height) (row + steps)) (column_at columns (n / height)) is in
    let same : n % height ≡ row + steps = eqb-true (n % height) (row + steps) both.0 in
    omega (arith, same)
behind_start Right height steps row columns n is =
    let both = and_parts (nat_eq (n % height) row) (column_at (columns_ahead columns steps) (n / height)) is in
    eqb-true (n % height) row both.0

not_behind : (axis : Axis) (height steps row : ℕ) (columns : List Bool) (n : ℕ) (b : Bool) →
    is_behind axis height steps row columns n ≡ b →
    start_row axis height steps n ≢ row → is_behind axis height steps row columns n ≡ false
not_behind axis height steps row columns n true e other = absurd (other
    (behind_start axis height steps row columns n e))
not_behind axis height steps row columns n false e other = e

-- the cells written from one row
down_here : (height steps row n : ℕ) (rows columns : List Bool) (starts : List (List Bool)) (reach : Bool) →
    nat_le steps (n % height) ≡ reach →
    n % height - steps ≡ row → column_at rows row ≡ true → columns ≡ slice_index_or starts row [] →
    is_behind Down height steps row columns n ≡ (reach && is_kept rows starts (n % height - steps) (n / height))
down_here height steps row n rows columns starts true t here kept is =
    let far : steps ≤ n % height = true_le steps (n % height) t in
    let same : n % height ≡ row + steps = omega (arith, far, here) in
    ap₂ (λ (b : Bool) (cs : List Bool). b && column_at cs (n / height)) (eq-eqb (n % height) (row + steps) same) is
    ∙ sym (ap (λ (r : ℕ). is_kept rows starts r (n / height)) here ∙ ap (λ (b : Bool). b && column_at
    (slice_index_or starts row []) (n / height)) kept)
down_here height steps row n rows columns starts false t here kept is =
    let near : n % height < steps = grind (arith, nat_tests, t) in
    let other : n % height ≢ row + steps = omega (arith, near) in
    ap (λ (b : Bool). b && column_at columns (n / height)) (ne_eqb (n % height) (row + steps) other)

behind_here : (axis : Axis) (height steps row n : ℕ) (rows columns : List Bool) (starts : List (List Bool)) →
    n / height < SIDE_LIMIT →
    start_row axis height steps n ≡ row → column_at rows row ≡ true → columns ≡ slice_index_or starts row [] →
    is_behind axis height steps row columns n ≡ is_written axis height steps rows starts n
behind_here Down height steps row n rows columns starts low here kept is =
    down_here height steps row n rows columns starts (nat_le steps (n % height)) refl here kept is
behind_here Right height steps row n rows columns starts low here kept is =
    ap₂ (λ (a b : Bool). a && b) (eq-eqb (n % height) row here)
    (column_at-where (λ y. nat_le steps y && column_at columns (y - steps)) (n / height) low
    ∙ ap (λ (cs : List Bool). nat_le steps (n / height) && column_at cs (n / height - steps)) is)
    ∙ sym (ap (λ (r : ℕ). nat_le steps (n / height) && is_kept rows starts r (n / height - steps)) here
    ∙ ap (λ (b : Bool). nat_le steps (n / height) && (b && column_at (slice_index_or starts row [])
    (n / height - steps))) kept)

start_low : (axis : Axis) (height steps n : ℕ) → n % height < SIDE_LIMIT → start_row axis height steps n < SIDE_LIMIT
start_low Down height steps n low = omega (arith, low)
start_low Right height steps n low = low

one_more : (axis : Axis) (height steps row n : ℕ) (rows set left columns : List Bool) (starts : List (List Bool)) →
    n / height < SIDE_LIMIT →
    n % height < SIDE_LIMIT → set_columns set ≡ row ∷ set_columns left → AreOf rows set →
    columns ≡ slice_index_or starts row [] →
    passed_by axis height steps rows starts left n
    ≡ (passed_by axis height steps rows starts set n || is_behind axis height steps row columns n)
one_more axis height steps row n rows set left columns starts low under taken all is =
    let first = first_in set row (set_columns left) taken in
    elim (cases_eq (start_row axis height steps n) row) [
      | inl here ↦
          ap (λ (b : Bool). not b && is_written axis height steps rows starts n) (ap (column_at left) here
          ∙ taken_gone set left row taken)
          ∙ sym (behind_here axis height steps row n rows columns starts low here (all.at row first.1 first.0) is)
          ∙ sym (ap (λ (b : Bool). (not b && is_written axis height steps rows starts n) || is_behind axis height
          steps row columns n)
          (ap (column_at set) here ∙ first.0))
      | inr other ↦
          ap (λ (b : Bool). not b && is_written axis height steps rows starts n)
          (sym (taken_out set left row (start_row axis height steps n) taken (start_low axis height steps n under)
          ∙ ap (λ (b : Bool). b || column_at left (start_row axis height steps n)) (ne_eqb
          (start_row axis height steps n) row other)))
          ∙ sym (ap (λ (b : Bool). passed_by axis height steps rows starts set n || b)
          (not_behind axis height steps row columns n (is_behind axis height steps row columns n) refl other)
          ∙ or-false (passed_by axis height steps rows starts set n))
    ]

-- the loop over rows
pub no_row_behind : (start : Grid) (becomes : List Slot → List Slot) (axis : Axis) (steps : ℕ) (rows : List Bool)
    (starts : List (List Bool)) →
    IsGrid start → told start false ≡ rewritten_where start becomes (passed_by axis start.height steps rows starts rows)
no_row_behind start becomes axis steps rows starts grid =
    sym (where-none start becomes (passed_by axis start.height steps rows starts rows)
    (λ n low. none_yet axis start.height steps rows starts n (column_at rows
    (start_row axis start.height steps n)) refl)) where
      none_yet : (axis : Axis) (height steps : ℕ) (rows : List Bool) (starts : List (List Bool)) (n : ℕ) (b : Bool) →
          column_at rows (start_row axis height steps n) ≡ b →
          (not b && is_written axis height steps rows starts n) ≡ false
      none_yet axis height steps rows starts n true e = refl
      none_yet axis height steps rows starts n false e =
          ap (λ (b : Bool). nat_le steps (position_of axis height n) && (b && column_at (slice_index_or starts
          (start_row axis height steps n) []) (start_column axis height steps n))) e
          ∙ and-false (nat_le steps (position_of axis height n))

sides_low : (start : Grid) (n : ℕ) → IsGrid start → n < length start.cells →
    (n / start.height < SIDE_LIMIT) × (n % start.height < SIDE_LIMIT)
sides_low start n grid low =
    let inside : n < start.width * start.height = rw (← grid.cells) low in
    let column : n / start.height < start.width = div_below n start.height start.width grid.some_row inside in
    let row : n % start.height < start.height = mod_below n start.height grid.some_row in
    (omega (arith, column, grid.columns), omega (arith, row, grid.rows))

pub one_row_behind : (start now next : Grid) (becomes : List Slot →
    List Slot) (axis : Axis) (steps row : ℕ) (rows set left columns : List Bool)
    (starts : List (List Bool)) (any more : Bool) → IsGrid start → now.height ≡ start.height →
    told now any ≡ rewritten_where start becomes (passed_by axis start.height steps rows starts set) →
    set_columns set ≡ row ∷ set_columns left → AreOf rows set → columns ≡ slice_index_or starts row [] →
    next ≡ (rewritten_where now becomes (is_behind axis now.height steps row columns)).grid →
    more ≡ (any || (rewritten_where now becomes (is_behind axis now.height steps row columns)).changed) →
    told next more ≡ rewritten_where start becomes (passed_by axis start.height steps rows starts left)
one_row_behind start now next becomes axis steps row rows set left columns starts any more grid high so taken all is
    written changed =
    let first = first_in set row (set_columns left) taken in
    told-more start now next becomes any more (passed_by axis start.height steps rows starts set)
    (is_behind axis start.height steps row columns)
    (passed_by axis start.height steps rows starts left) so
    (written ∙ ap (λ (h : ℕ). (rewritten_where now becomes (is_behind axis h steps row columns)).grid) high)
    (changed ∙ ap (λ (h : ℕ). any || (rewritten_where now becomes (is_behind axis h steps row columns)).changed) high)
    (λ n low chosen.
    let here : start_row axis start.height steps n ≡ row = behind_start axis start.height steps row columns n chosen in
    ap (λ (b : Bool). not b && is_written axis start.height steps rows starts n) (ap (column_at set) here ∙ first.0))
    (λ n low.
    let sides = sides_low start n grid low in
    one_more axis start.height steps row n rows set left columns starts sides.0 sides.1 taken all is)

pub all_rows_behind : (start : Grid) (becomes : List Slot → List Slot) (axis : Axis) (steps : ℕ)
    (rows left : List Bool) (starts : List (List Bool))
    (made : Rewritten) → IsGrid start → set_columns left ≡ [] →
    made ≡ rewritten_where start becomes (passed_by axis start.height steps rows starts left) →
    made ≡ rewritten_where start becomes (is_written axis start.height steps rows starts)
all_rows_behind start becomes axis steps rows left starts made grid none so =
    so ∙ where-agree start becomes (passed_by axis start.height steps rows starts left)
    (is_written axis start.height steps rows starts)
    (λ n low.
    let sides = sides_low start n grid low in
    ap (λ (b : Bool). not b && is_written axis start.height steps rows starts n)
    (none_in left (start_row axis start.height steps n) none (start_low axis start.height steps n sides.1)))
