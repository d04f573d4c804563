-- Sets of columns, column by column.
use Rattle.std.proofs.Common.{◌≡◌, ◌∙◌, ℕ, ◌<◌, ◌≤◌, Bool, true, false, not, ◌&&◌, ◌||◌, List, [], refl, sym, ap}
use Rattle.std.proofs.Common.{arith, length}
use Rattle.std.specs.Prelude.{nat_lt, if◌then◌else◌}
use Rattle.std.proofs.lemmas.Bool.{lt-ltb, or_parts, not-false}
use Rattle.ps_model.specs.declared.limits.TheConstants.{SIDE_LIMIT}
use Rattle.ps_board.specs.ColumnSets.{both_columns, column_at, columns_below, columns_where, columns_without}
use Rattle.ps_board.specs.ColumnSets.{either_columns, no_columns, set_columns, unlike_columns}
use Rattle.ps_board.proofs.ColumnLaws.{below_at, column_at-all, column_at-where, columns-again, columns-agree}
use Rattle.ps_board.proofs.ColumnLaws.{none_in}
use Rattle.ps_rows.specs.Planes.{IsSet}

-- a column of sets that are made of others
pub none_at : (x : ℕ) → column_at no_columns x ≡ false
none_at x = column_at-all (λ y. false) x (λ high. refl)

pub both_at : (a b : List Bool) (x : ℕ) → x < SIDE_LIMIT →
    column_at (both_columns a b) x ≡ (column_at a x && column_at b x)
both_at a b x low = column_at-where (λ y. column_at a y && column_at b y) x low

pub either_at : (a b : List Bool) (x : ℕ) → x < SIDE_LIMIT →
    column_at (either_columns a b) x ≡ (column_at a x || column_at b x)
either_at a b x low = column_at-where (λ y. column_at a y || column_at b y) x low

pub without_at : (a b : List Bool) (x : ℕ) → x < SIDE_LIMIT →
    column_at (columns_without a b) x ≡ (column_at a x && not (column_at b x))
without_at a b x low = column_at-where (λ y. column_at a y && not (column_at b y)) x low

-- a column in which two sets differ, or don't
pub unlike_at : (a b : List Bool) (x : ℕ) → x < SIDE_LIMIT →
    column_at (unlike_columns a b) x ≡ (if column_at a x then not (column_at b x) else column_at b x)
unlike_at a b x low = column_at-where (λ y. if column_at a y then not (column_at b y) else column_at b y) x low

unlike_by : (p q : Bool) → (if p then not q else q) ≡ false → p ≡ q
unlike_by true q none = sym (not-false q none)
unlike_by false q none = sym none

alike_by : (p q : Bool) → p ≡ q → (if p then not q else q) ≡ false
alike_by true q same = ap not (sym same)
alike_by false q same = sym same

pub not_unlike : (a b : List Bool) (x : ℕ) → x < SIDE_LIMIT → column_at (unlike_columns a b) x ≡ false →
    column_at a x ≡ column_at b x
not_unlike a b x low none = unlike_by (column_at a x) (column_at b x) (sym (unlike_at a b x low) ∙ none)

pub alike_at : (a b : List Bool) (x : ℕ) → x < SIDE_LIMIT → column_at a x ≡ column_at b x →
    column_at (unlike_columns a b) x ≡ false
alike_at a b x low same = unlike_at a b x low ∙ alike_by (column_at a x) (column_at b x) same

-- a set by what holds of each column is one
pub set_where : (holds : ℕ → Bool) → IsSet (columns_where holds)
set_where holds = columns-again holds

-- sets with the same columns are the same
pub same_set : (a b : List Bool) → IsSet a → IsSet b → ((x : ℕ) → x < SIDE_LIMIT → column_at a x ≡ column_at b x) →
    a ≡ b
same_set a b is so same = sym is ∙ columns-agree (column_at a) (column_at b) same ∙ so

-- no columns
pub none_set : (a : List Bool) → IsSet a → set_columns a ≡ [] → a ≡ no_columns
none_set a is none = sym is ∙ columns-agree (column_at a) (λ x. false) (λ x low. none_in a x none low)

-- neither of two sets has a column
pub neither_at : (a b : List Bool) → set_columns (either_columns a b) ≡ [] → (x : ℕ) → x < SIDE_LIMIT →
    (column_at a x ≡ false) × (column_at b x ≡ false)
neither_at a b none x low =
    or_parts (column_at a x) (column_at b x) (sym (either_at a b x low) ∙ none_in (either_columns a b) x none low)

-- all columns of a board, and those of them that are in a set
pub wide_of : (all : List Bool) (width : ℕ) → all ≡ columns_below width → (x : ℕ) → x < SIDE_LIMIT →
    column_at all x ≡ nat_lt x width
wide_of all width is x low = ap (λ (set : List Bool). column_at set x) is ∙ below_at width x low

pub wide_on : (all : List Bool) (width : ℕ) → width ≤ SIDE_LIMIT → all ≡ columns_below width → (x : ℕ) → x < width →
    column_at all x ≡ true
wide_on all width narrow is x across = wide_of all width is x (omega (arith, across, narrow)) ∙ lt-ltb x width across

-- two sets that differ in no column
pub same_by_unlike : (a b : List Bool) → set_columns (unlike_columns a b) ≡ [] → (x : ℕ) → x < SIDE_LIMIT →
    column_at a x ≡ column_at b x
same_by_unlike a b none x low = not_unlike a b x low (none_in (unlike_columns a b) x none low)

-- a test for no columns that isn't passed where there is one
pub true_by : (empty : Bool) (numbers : List ℕ) → (empty ≡ false → 0 < length numbers) → numbers ≡ [] → empty ≡ true
true_by true numbers some none = refl
true_by false numbers some none =
    let many : 0 < length numbers = some refl in
    let few : length numbers ≡ 0 = ap length none in
    absurd (omega (arith, many, few))
