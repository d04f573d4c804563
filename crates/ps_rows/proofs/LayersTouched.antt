-- Sets of the layers that a write touches, and those of them that are left.
use Rattle.std.proofs.Common.{◌≡◌, ◌≢◌, ◌∙◌, ℕ, ◌+◌, ◌<◌, ◌≤◌, ◌&&◌, ◌||◌, inl, inr, Bool, true, false, not, List}
use Rattle.std.proofs.Common.{[], ◌∷◌, length, get_or, take, refl, sym, ap, ap₂, arith}
use Rattle.std.specs.Prelude.{nat_eq, nat_lt}
use Rattle.std.specs.List.{list_any}
use Rattle.std.proofs.Math.Bool.{and-false, and-true}
use Rattle.std.proofs.lemmas.Bool.{and_parts, cases_eq, cases_lt, eq-eqb, eqb-true, ne_eqb, lt-ltb, le-ltb}
use Rattle.std.proofs.lemmas.Bool.{false≢true}
use Rattle.std.proofs.lemmas.List.Folds.{list_any_more}
use Rattle.ps_model.specs.declared.limits.TheConstants.{SIDE_LIMIT}
use Rattle.ps_model.specs.meaning.Compiled.{CellWrite}
use Rattle.ps_board.specs.ColumnSets.{column_at, set_columns, with_column}
use Rattle.ps_board.specs.declared.one_word.TheConstants.{WORD_BITS}
use Rattle.ps_board.proofs.ColumnLaws.{first_in, none_in, with_here, with_other}
use Rattle.ps_board.proofs.Taken.{AreBelow, taken_gone, taken_out}
use Rattle.ps_match.specs.Touches.{touches}
use Rattle.ps_rows.specs.LayersTouched.{is_reached}

-- one layer more ------------------------------------------------------------------------------------------------------

one_same : (before same reached : Bool) → same ≡ true → reached ≡ true → true ≡ (before || (reached && same))
one_same true same reached e r = refl
one_same false same reached e r = sym (ap₂ (λ (a b : Bool). a && b) r e)

one_none : (before : Bool) (test : Bool) → test ≡ false → before ≡ (before || test)
one_none true test e = refl
one_none false test e = sym e

pub layer_added : (layers : List Bool) (layer count x : ℕ) → x < SIDE_LIMIT → layer < count → layer < WORD_BITS →
    column_at (with_column layers layer true) x ≡ (column_at layers x || (is_reached count x && nat_eq layer x))
layer_added layers layer count x low under near = elim (cases_eq x layer) [
  | inl e ↦
      rw e (with_here layers layer true (rw (← e) low)
      ∙ one_same (column_at layers layer) (nat_eq layer layer) (is_reached count layer) (eq-eqb layer layer refl)
      (ap₂ (λ (a b : Bool). a && b) (lt-ltb layer count under) (lt-ltb layer WORD_BITS near)))
  | inr n ↦
      with_other layers layer x true low n
      ∙ one_none (column_at layers x) (is_reached count x && nat_eq layer x)
      (ap (λ (b : Bool). is_reached count x && b) (ne_eqb layer x (λ e. n (sym e))) ∙ and-false (is_reached count x))
]

-- those of a list, one after the other
joined : (start reached front here : Bool) →
    ((start || (reached && front)) || (reached && here)) ≡ (start || (reached && (front || here)))
joined true reached front here = refl
joined false true front here = refl
joined false false front here = refl

module _ {X : Type 0} (layer_of : X → ℕ) (count x : ℕ) (start : Bool) where
  pub listed_none : start ≡ (start || (is_reached count x && list_any (λ each. nat_eq (layer_of each) x) []))
  listed_none = one_none start (is_reached count x && false) (and-false (is_reached count x))

  pub listed_more : (xs : List X) (i : ℕ) (d : X) (set more : Bool) → i < length xs →
      more ≡ (set || (is_reached count x && nat_eq (layer_of (get_or xs i d)) x)) →
      set ≡ (start || (is_reached count x && list_any (λ each. nat_eq (layer_of each) x) (take i xs))) →
      more ≡ (start || (is_reached count x && list_any (λ each. nat_eq (layer_of each) x) (take (i + 1) xs)))
  listed_more xs i d set more below step front =
      let q : X → Bool = λ each. nat_eq (layer_of each) x in
      step ∙ ap (λ (b : Bool). b || (is_reached count x && q (get_or xs i d))) front
      ∙ joined start (is_reached count x) (list_any q (take i xs)) (q (get_or xs i d))
      ∙ ap (λ (b : Bool). start || (is_reached count x && b)) (sym (list_any_more q xs i d below))

-- both lists
pub touched_by : (reached gone written left all : Bool) → left ≡ (false || (reached && gone)) →
    all ≡ (left || (reached && written)) → all ≡ (reached && (gone || written))
touched_by reached gone written left all e f =
    f ∙ ap (λ (b : Bool). b || (reached && written)) e ∙ joined false reached gone written

-- those that are left -------------------------------------------------------------------------------------------------

-- the layer has room in a word, and isn't left
abbrev pub is_done : List Bool → ℕ → Bool
is_done left l = nat_lt l WORD_BITS && not (column_at left l)

module _ (left more : List Bool) (k : ℕ) (is : set_columns left ≡ k ∷ set_columns more)
    (near : AreBelow WORD_BITS left) where
  pub not_done : is_done left k ≡ false
  not_done =
      let first = first_in left k (set_columns more) is in
      ap (λ (b : Bool). nat_lt k WORD_BITS && not b) first.0 ∙ and-false (nat_lt k WORD_BITS)

  one_out : (same was now : Bool) → was ≡ (same || now) → (same ≡ true → now ≡ false) → not now ≡ (same || not was)
  one_out true was now e f = ap not (f refl)
  one_out false was now e f = ap not (sym e)

  pub more_done : (l : ℕ) → l < SIDE_LIMIT → is_done more l ≡ (nat_eq l k || is_done left l)
  more_done l low = elim (cases_lt l WORD_BITS) [
    | inl under ↦
        ap (λ (b : Bool). b && not (column_at more l)) (lt-ltb l WORD_BITS under)
        ∙ one_out (nat_eq l k) (column_at left l) (column_at more l) (taken_out left more k l is low)
        (λ e. ap (column_at more) (eqb-true l k e) ∙ taken_gone left more k is)
        ∙ sym (ap (λ (b : Bool). nat_eq l k || (b && not (column_at left l))) (lt-ltb l WORD_BITS under))
    | inr far ↦
        let first = first_in left k (set_columns more) is in
        let other : l ≢ k = λ e. false≢true (sym (near.at l low far) ∙ ap (column_at left) e ∙ first.0) in
        ap (λ (b : Bool). b && not (column_at more l)) (le-ltb l WORD_BITS far)
        ∙ sym (ap₂ (λ (a b : Bool). a || (b && not (column_at left l))) (ne_eqb l k other) (le-ltb l WORD_BITS far))
  ]

-- none is left
pub all_done : (left : List Bool) (l : ℕ) → set_columns left ≡ [] → l < SIDE_LIMIT →
    nat_lt l WORD_BITS ≡ is_done left l
all_done left l none low =
    sym (ap (λ (b : Bool). nat_lt l WORD_BITS && not b) (none_in left l none low) ∙ and-true (nat_lt l WORD_BITS))

module _ (set : List Bool) (count : ℕ) (write : CellWrite)
    (so : (x : ℕ) → x < SIDE_LIMIT → column_at set x ≡ (is_reached count x && touches write x)) where
  -- at the start those are done that aren't touched
  pub done_first : count ≤ SIDE_LIMIT → (l : ℕ) → l < count → is_done set l ≡ true → touches write l ≡ false
  done_first few l below on =
      let low : l < SIDE_LIMIT = omega (arith, below, few) in
      let parts = and_parts (nat_lt l WORD_BITS) (not (column_at set l)) on in
      let off : column_at set l ≡ false = no (column_at set l) parts.1 in
      ap (λ (b : Bool). b && touches write l) (sym (ap₂ (λ (a b : Bool). a && b) (lt-ltb l count below) parts.0))
      ∙ sym (so l low) ∙ off where
        no : (b : Bool) → not b ≡ true → b ≡ false
        no true e = sym e
        no false e = refl

  -- no other one is among those that are left
  pub first_below : AreBelow count set
  first_below = record {
    at = λ x low far.
        so x low ∙ ap (λ (b : Bool). (b && nat_lt x WORD_BITS) && touches write x) (le-ltb x count far);
  }

  pub first_near : AreBelow WORD_BITS set
  first_near = record {
    at = λ x low far.
        so x low ∙ ap (λ (b : Bool). (nat_lt x count && b) && touches write x) (le-ltb x WORD_BITS far)
        ∙ ap (λ (b : Bool). b && touches write x) (and-false (nat_lt x count));
  }
