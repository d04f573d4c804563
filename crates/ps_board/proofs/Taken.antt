-- Sets whose numbers are taken out, the least first: what isn't left in the set is passed by.
use Rattle.std.proofs.Common.{◌≡◌, ◌≢◌, ◌∙◌, ℕ, ◌+◌, ◌<◌, ◌≤◌, ◌&&◌, ◌||◌, inl, inr, suc, zero, Bool, true, false, cond}
use Rattle.std.proofs.Common.{List, [], ◌∷◌, ◌++◌, refl, sym, ap, ap₂, arith}
use Rattle.std.specs.Prelude.{nat_eq, nat_lt, filter}
use Rattle.std.specs.List.{flat_map, list_any, range_with_len}
use Rattle.std.proofs.Math.Bool.{and-false, and-true, or-true}
use Rattle.std.proofs.lemmas.Bool.{cases_eq, cases_lt, or_parts}
use Rattle.std.proofs.lemmas.Bool.Decides.{nat_tests}
use Rattle.ps_model.specs.declared.limits.TheConstants.{SIDE_LIMIT}
use Rattle.ps_board.specs.ColumnSets.{both_columns, column_at, columns_below, set_columns}
use Rattle.ps_board.proofs.ColumnLaws.{column_at-where, first_in, none_in, none_on}

-- the numbers listed are those in the set
listed_before : (f : ℕ → Bool) (a n x : ℕ) (here : Bool) → f a ≡ here → x < a →
    list_any (nat_eq x) (filter f (range_with_len a n)) ≡ false
listed_before f a zero x here e low = refl
listed_before f a (suc n) x true e low =
    let other : nat_eq x a ≡ false = grind (arith, nat_tests) in
    ap (λ (b : Bool).
    list_any (nat_eq x) (cond b (a ∷ filter f (range_with_len (a + 1) n)) (filter f (range_with_len (a + 1) n)))) e
    ∙ ap₂ (λ (b c : Bool). b || c) other (listed_before f (a + 1) n x (f (a + 1)) refl (omega arith))
listed_before f a (suc n) x false e low =
    ap (λ (b : Bool).
    list_any (nat_eq x) (cond b (a ∷ filter f (range_with_len (a + 1) n)) (filter f (range_with_len (a + 1) n)))) e
    ∙ listed_before f (a + 1) n x (f (a + 1)) refl (omega arith)

listed_by : (f : ℕ → Bool) (a n x : ℕ) (here same : Bool) → f a ≡ here → nat_eq x a ≡ same → a ≤ x → x < a + n →
    list_any (nat_eq x) (filter f (range_with_len a n)) ≡ f x
listed_by f a zero x here same e t low high = absurd (omega arith)
listed_by f a (suc n) x true true e t low high =
    let is : a ≡ x = grind (arith, nat_tests) in
    ap (λ (b : Bool).
    list_any (nat_eq x) (cond b (a ∷ filter f (range_with_len (a + 1) n)) (filter f (range_with_len (a + 1) n)))) e
    ∙ ap (λ (b : Bool). b || list_any (nat_eq x) (filter f (range_with_len (a + 1) n))) t
    ∙ sym (ap f (sym is) ∙ e)
listed_by f a (suc n) x false true e t low high =
    let is : a ≡ x = grind (arith, nat_tests) in
    ap (λ (b : Bool).
    list_any (nat_eq x) (cond b (a ∷ filter f (range_with_len (a + 1) n)) (filter f (range_with_len (a + 1) n)))) e
    ∙ listed_before f (a + 1) n x (f (a + 1)) refl (omega arith)
    ∙ sym (ap f (sym is) ∙ e)
listed_by f a (suc n) x true false e t low high =
    let other : a < x = grind (arith, nat_tests) in
    ap (λ (b : Bool).
    list_any (nat_eq x) (cond b (a ∷ filter f (range_with_len (a + 1) n)) (filter f (range_with_len (a + 1) n)))) e
    ∙ ap₂ (λ (b c : Bool). b || c) t
    (listed_by f (a + 1) n x (f (a + 1)) (nat_eq x (a + 1)) refl refl (omega arith) (omega arith))
listed_by f a (suc n) x false false e t low high =
    let other : a < x = grind (arith, nat_tests) in
    ap (λ (b : Bool).
    list_any (nat_eq x) (cond b (a ∷ filter f (range_with_len (a + 1) n)) (filter f (range_with_len (a + 1) n)))) e
    ∙ listed_by f (a + 1) n x (f (a + 1)) (nat_eq x (a + 1)) refl refl (omega arith) (omega arith)

listed : (columns : List Bool) (x : ℕ) → x < SIDE_LIMIT →
    list_any (nat_eq x) (set_columns columns) ≡ column_at columns x
unfolding set_columns
listed columns x low = listed_by (column_at columns) 0 SIDE_LIMIT x (column_at columns 0) (nat_eq x 0) refl refl
    (omega arith) (omega (arith, low))

-- the set without its first number
pub taken_out : (set left : List Bool) (k x : ℕ) → set_columns set ≡ k ∷ set_columns left → x < SIDE_LIMIT →
    column_at set x ≡ (nat_eq x k || column_at left x)
taken_out set left k x is low =
    sym (listed set x low) ∙ ap (list_any (nat_eq x)) is ∙ ap (λ (b : Bool). nat_eq x k || b) (listed left x low)

-- which isn't in it again
once_by : (f : ℕ → Bool) (a n k : ℕ) (ks : List ℕ) (here : Bool) → f a ≡ here → filter f (range_with_len a n) ≡ k ∷ ks →
    list_any (nat_eq k) ks ≡ false
once_by f a zero k ks here e is = absurd (cc)
once_by f a (suc n) k ks true e is =
    let same : a ∷ filter f (range_with_len (a + 1) n) ≡ k ∷ ks =
    ap (λ (b : Bool). cond b (a ∷ filter f (range_with_len (a + 1) n)) (filter f (range_with_len (a + 1) n))) (sym e)
    ∙ is in
    let first : a ≡ k = cc in
    let others : filter f (range_with_len (a + 1) n) ≡ ks = cc in
    ap (list_any (nat_eq k)) (sym others) ∙ listed_before f (a + 1) n k (f (a + 1)) refl (omega (arith, first))
once_by f a (suc n) k ks false e is =
    once_by f (a + 1) n k ks (f (a + 1)) refl
    (ap (λ (b : Bool). cond b (a ∷ filter f (range_with_len (a + 1) n)) (filter f (range_with_len (a + 1) n))) (sym e)
    ∙ is)

listed_once : (columns : List Bool) (k : ℕ) (ks : List ℕ) → set_columns columns ≡ k ∷ ks →
    list_any (nat_eq k) ks ≡ false
unfolding set_columns
listed_once columns k ks is = once_by (column_at columns) 0 SIDE_LIMIT k ks (column_at columns 0) refl is

pub taken_gone : (set left : List Bool) (k : ℕ) → set_columns set ≡ k ∷ set_columns left → column_at left k ≡ false
taken_gone set left k is = let first = first_in set k (set_columns left) is in
    sym (listed left k first.1) ∙ listed_once set k (set_columns left) is

-- and no smaller one is in the set
least_by : (f : ℕ → Bool) (a n k x : ℕ) (ks : List ℕ) (here : Bool) → f a ≡ here →
    filter f (range_with_len a n) ≡ k ∷ ks →
    a ≤ x → x < k → f x ≡ false
least_by f a zero k x ks here e is from less = absurd (cc)
least_by f a (suc n) k x ks true e is from less =
    let same : a ∷ filter f (range_with_len (a + 1) n) ≡ k ∷ ks =
    ap (λ (b : Bool). cond b (a ∷ filter f (range_with_len (a + 1) n)) (filter f (range_with_len (a + 1) n))) (sym e)
    ∙ is in
    let first : a ≡ k = cc in
    absurd (omega (arith, first, from, less))
least_by f a (suc n) k x ks false e is from less = elim (cases_eq x a) [
  | inl same ↦ ap f same ∙ e
  | inr other ↦
      least_by f (a + 1) n k x ks (f (a + 1)) refl
      (ap (λ (b : Bool). cond b (a ∷ filter f (range_with_len (a + 1) n)) (filter f (range_with_len (a + 1) n))) (sym e)
      ∙ is) (omega (arith, from, other)) less
]

pub first_least : (columns : List Bool) (k x : ℕ) (ks : List ℕ) → set_columns columns ≡ k ∷ ks → x < k →
    column_at columns x ≡ false
unfolding set_columns
first_least columns k x ks is less = least_by (column_at columns) 0 SIDE_LIMIT k x ks (column_at columns 0) refl is
    (omega arith) less

-- the numbers left are below a count ----------------------------------------------------------------------------------

pub record AreBelow (count : ℕ) (left : List Bool) : Type 0 where
  pub at : (x : ℕ) → x < SIDE_LIMIT → count ≤ x → column_at left x ≡ false

pub in_both : (set below left : List Bool) (count x : ℕ) → below ≡ columns_below count → left ≡ both_columns set below →
    x < SIDE_LIMIT → column_at left x ≡ (column_at set x && nat_lt x count)
in_both set below left count x b e low =
    ap (λ (cs : List Bool). column_at cs x) e
    ∙ column_at-where (λ y. column_at set y && column_at below y) x low
    ∙ ap (λ (cs : List Bool). column_at set x && column_at cs x) b
    ∙ ap (λ (t : Bool). column_at set x && t) (column_at-where (λ y. nat_lt y count) x low)

-- a column that is left was in the set
pub was_in : (columns left : List Bool) (first x : ℕ) → set_columns columns ≡ first ∷ set_columns left →
    x < SIDE_LIMIT → column_at left x ≡ true → column_at columns x ≡ true
was_in columns left first x is low some = taken_out columns left first x is low
    ∙ ap (λ (b : Bool). nat_eq x first || b) some ∙ or-true (nat_eq x first)

pub below-init : (set below left : List Bool) (count : ℕ) → below ≡ columns_below count →
    left ≡ both_columns set below → AreBelow count left
below-init set below left count b e =
    record {
      at = λ x low far.
          let out : nat_lt x count ≡ false = grind (arith, nat_tests, far) in
          in_both set below left count x b e low ∙ ap (λ (t : Bool). column_at set x && t) out
          ∙ and-false (column_at set x);
    }

pub below-more : (set left : List Bool) (count k : ℕ) → set_columns set ≡ k ∷ set_columns left → AreBelow count set →
    AreBelow count left
below-more set left count k is all =
    record {
      at = λ x low far.
          (or_parts (nat_eq x k) (column_at left x) (sym (taken_out set left k x is low) ∙ all.at x low far)).1;
    }

pub taken_below : (set left : List Bool) (count k : ℕ) → set_columns set ≡ k ∷ set_columns left → AreBelow count set →
    k < count
taken_below set left count k is all =
    let first = first_in set k (set_columns left) is in
    elim (cases_lt k count) [
      | inl low ↦ low
      | inr far ↦ let clash : true ≡ false = sym first.0 ∙ all.at k first.1 far in absurd (cc)
    ]

-- the numbers below a count that aren't left have a property ----------------------------------------------------------

pub record ArePassed (P : ℕ → Type 0) (count : ℕ) (left : List Bool) : Type 0 where
  pub at : (x : ℕ) → x < count → column_at left x ≡ false → P x

pub passed-init : (P : ℕ → Type 0) (set below left : List Bool) (count : ℕ) → count ≤ SIDE_LIMIT →
    below ≡ columns_below count → left ≡ both_columns set below →
    ((x : ℕ) → x < count → column_at set x ≡ false → P x) → ArePassed P count left
passed-init P set below left count few b e others =
    record {
      at = λ x low out.
          let within : nat_lt x count ≡ true = grind (arith, nat_tests, low) in
          others x low
          (sym (in_both set below left count x b e (omega (arith, low, few))
          ∙ ap (λ (t : Bool). column_at set x && t) within ∙ and-true (column_at set x)) ∙ out);
    }

-- one more of them, whatever is done for it
pub passed-changed : (P Q : ℕ → Type 0) (set left : List Bool) (count k : ℕ) → count ≤ SIDE_LIMIT →
    set_columns set ≡ k ∷ set_columns left → Q k → ((x : ℕ) → x < count → x ≢ k → P x → Q x) →
    ArePassed P count set → ArePassed Q count left
passed-changed P Q set left count k few is here others passed =
    record {
      at = λ x low out. elim (cases_eq x k) [
        | inl same ↦ rw same here
        | inr other ↦
            let no : nat_eq x k ≡ false = grind (arith, nat_tests, other) in
            others x low other
            (passed.at x low (taken_out set left k x is (omega (arith, low, few))
            ∙ ap₂ (λ (a b : Bool). a || b) no out))
      ];
    }

pub passed-more : (P : ℕ → Type 0) (set left : List Bool) (count k : ℕ) → count ≤ SIDE_LIMIT →
    set_columns set ≡ k ∷ set_columns left → P k → ArePassed P count set → ArePassed P count left
passed-more P set left count k few is here passed =
    passed-changed P P set left count k few is here (λ x low other so. so) passed

pub passed-all : (P : ℕ → Type 0) (left : List Bool) (count x : ℕ) → count ≤ SIDE_LIMIT → set_columns left ≡ [] →
    ArePassed P count left → x < count → P x
passed-all P left count x few none passed low = passed.at x low (none_in left x none (omega (arith, low, few)))

-- lists one behind the other, where those of the other numbers are empty ----------------------------------------------

gathered_by : {X : Type 0} (f : ℕ → List X) (t : ℕ → Bool) (a n m : ℕ) (here : Bool) → t a ≡ here → n ≤ m →
    ((x : ℕ) → a + n ≤ x → x < a + m → t x ≡ false) → ((x : ℕ) → x < a + n → t x ≡ false → f x ≡ []) →
    flat_map f (filter t (range_with_len a m)) ≡ flat_map f (range_with_len a n)
gathered_by f t a zero m here e few far none = ap (flat_map f) (none_on t a m (λ x low high. far x (omega arith) high))
gathered_by f t a (suc n) zero here e few far none = absurd (omega arith)
gathered_by f t a (suc n) (suc m) true e few far none =
    ap (λ (b : Bool).
    flat_map f (cond b (a ∷ filter t (range_with_len (a + 1) m)) (filter t (range_with_len (a + 1) m)))) e
    ∙ ap (λ (xs : List _). f a ++ xs)
    (gathered_by f t (a + 1) n m (t (a + 1)) refl (omega arith) (λ x low high. far x (omega arith) (omega arith))
    (λ x high. none x (omega arith)))
gathered_by f t a (suc n) (suc m) false e few far none =
    ap (λ (b : Bool).
    flat_map f (cond b (a ∷ filter t (range_with_len (a + 1) m)) (filter t (range_with_len (a + 1) m)))) e
    ∙ gathered_by f t (a + 1) n m (t (a + 1)) refl (omega arith) (λ x low high. far x (omega arith) (omega arith))
    (λ x high. none x (omega arith))
    ∙ ap (λ (xs : List _). xs ++ flat_map f (range_with_len (a + 1) n)) (sym (none a (omega arith) e))

pub gathered-all : {X : Type 0} (f : ℕ → List X) (left : List Bool) (count : ℕ) → count ≤ SIDE_LIMIT →
    AreBelow count left → ArePassed (λ x. f x ≡ []) count left →
    flat_map f (set_columns left) ≡ flat_map f (range_with_len 0 count)
unfolding set_columns
gathered-all f left count few below passed =
    gathered_by f (column_at left) 0 count SIDE_LIMIT (column_at left 0) refl few
    (λ x far high. below.at x (omega (arith, high)) (omega (arith, far)))
    (λ x low out. passed.at x (omega (arith, low)) out)
