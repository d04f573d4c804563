-- A column taken out of a set, and the set without others.
use Rattle.std.proofs.Common.{◌≡◌, ◌∙◌, ℕ, suc, zero, ◌+◌, ◌<◌, ◌≤◌, ◌||◌, ◌&&◌, ◌⊎◌, inl, inr, not, Bool, true, false}
use Rattle.std.proofs.Common.{List, ◌∷◌, length, refl, sym, ap, arith}
use Rattle.std.specs.Prelude.{nat_eq, filter}
use Rattle.std.specs.List.{range_with_len}
use Rattle.std.proofs.lemmas.Bool.{and_parts, cases_Bool, cases_eq, cases_lt, eq-eqb, false≢true, ne_eqb}
use Rattle.ps_model.specs.declared.limits.TheConstants.{SIDE_LIMIT}
use Rattle.ps_board.specs.ColumnSets.{column_at, columns_without, set_columns}
use Rattle.ps_board.proofs.ColumnLaws.{column_at-beyond, column_at-where, set_columns-are}
use Rattle.ps_board.proofs.Taken.{taken_out}

-- a column that isn't left is the one taken out, or wasn't in the set
pub not_left : (columns left : List Bool) (first x : ℕ) → set_columns columns ≡ first ∷ set_columns left →
    x < SIDE_LIMIT → column_at left x ≡ false → (x ≡ first) ⊎ (column_at columns x ≡ false)
not_left columns left first x is low none = elim (cases_eq x first) [
  | inl e ↦ inl e
  | inr apart ↦ inr (taken_out columns left first x is low
      ∙ ap (λ (b : Bool). b || column_at left x) (ne_eqb x first apart) ∙ none)
]

-- so was the one taken out, and it isn't left
pub first_was_in : (columns left : List Bool) (first : ℕ) → set_columns columns ≡ first ∷ set_columns left →
    first < SIDE_LIMIT → column_at columns first ≡ true
first_was_in columns left first is low = taken_out columns left first first is low
    ∙ ap (λ (b : Bool). b || column_at left first) (eq-eqb first first refl)

same_columns : (columns left : List Bool) → ((x : ℕ) → x < SIDE_LIMIT → column_at columns x ≡ column_at left x) →
    set_columns columns ≡ set_columns left
unfolding set_columns
same_columns columns left same = set_columns-are columns (column_at left) same

as_before : (left : List Bool) (first x : ℕ) → column_at left first ≡ true →
    (nat_eq x first || column_at left x) ≡ column_at left x
as_before left first x has = elim (cases_eq x first) [
  | inl e ↦ rw e (ap (λ (b : Bool). b || column_at left first) (eq-eqb first first refl) ∙ sym has)
  | inr apart ↦ ap (λ (b : Bool). b || column_at left x) (ne_eqb x first apart)
]

pub first_gone : (columns left : List Bool) (first : ℕ) → set_columns columns ≡ first ∷ set_columns left →
    first < SIDE_LIMIT → column_at left first ≡ false
first_gone columns left first is low = elim (cases_Bool (column_at left first)) [
  | inr none ↦ none
  | inl has ↦
      let same : set_columns columns ≡ set_columns left =
      same_columns columns left (λ x under. taken_out columns left first x is under ∙ as_before left first x has) in
      let longer : length (set_columns columns) ≡ suc (length (set_columns left)) =
      ap (λ (xs : List ℕ). length xs) is in
      let as_long : length (set_columns columns) ≡ length (set_columns left) = ap (λ (xs : List ℕ). length xs) same in
      absurd (omega (arith, longer, as_long))
]

-- a set without others has no more columns
fewer_by : (f h : ℕ → Bool) (a n : ℕ) (b d : Bool) → f a ≡ b → h a ≡ d → ((x : ℕ) → h x ≡ true → f x ≡ true) →
    length (filter h (range_with_len (a + 1) n)) ≤ length (filter f (range_with_len (a + 1) n)) →
    length (filter h (range_with_len a (suc n))) ≤ length (filter f (range_with_len a (suc n)))
fewer_by f h a n true true e d less more = rw (e, d) (omega (arith, more))
fewer_by f h a n true false e d less more = rw (e, d) (omega (arith, more))
fewer_by f h a n false true e d less more = absurd (false≢true (sym e ∙ less a d))
fewer_by f h a n false false e d less more = rw (e, d) more

fewer_on : (f h : ℕ → Bool) (a n : ℕ) → ((x : ℕ) → h x ≡ true → f x ≡ true) →
    length (filter h (range_with_len a n)) ≤ length (filter f (range_with_len a n))
fewer_on f h a zero less = omega arith
fewer_on f h a (suc n) less = fewer_by f h a n (f a) (h a) refl refl less (fewer_on f h (a + 1) n less)

pub no_more : (columns others : List Bool) → length (set_columns (columns_without columns others)) ≤ length
    (set_columns columns)
unfolding set_columns
no_more columns others =
    fewer_on (column_at columns) (column_at (columns_without columns others)) 0 SIDE_LIMIT
    (λ x has. elim (cases_lt x SIDE_LIMIT) [
      | inl low ↦ (and_parts (column_at columns x) (not (column_at others x))
          (sym (column_at-where (λ y. column_at columns y && not (column_at others y)) x low) ∙ has)).0
      | inr high ↦ absurd (false≢true (sym (column_at-beyond (λ y.
          column_at columns y && not (column_at others y)) x high) ∙ has))
    ])
