-- Lists of numbers, as what is looked for in them.
use Rattle.std.proofs.Common.{◌≡◌, ℕ, zero, suc, ◌+◌, ◌<◌, ◌≤◌, inl, inr, Bool, true, Option, Some, None, List, [], ◌∷◌}
use Rattle.std.proofs.Common.{refl, sym, ap, ◌∙◌, arith, filter}
use Rattle.std.specs.Prelude.{nat_eq, find}
use Rattle.std.specs.List.{list_any, range_with_len}
use Rattle.std.proofs.lemmas.Bool.{cases_eq, cases_Bool, eqb-true, eq-eqb, ne_eqb, or_left, or_right, or_cases}
use Rattle.std.proofs.lemmas.Bool.{false≢true}
use Rattle.std.proofs.lemmas.Option.{none-some, same_Some}
use Rattle.ps_model.specs.board.Movement.{is_number}

-- two tests for equal numbers
pub same_tests : (a b c d : ℕ) → (a ≡ b → c ≡ d) → (c ≡ d → a ≡ b) → nat_eq a b ≡ nat_eq c d
same_tests a b c d f g = elim (cases_eq a b) [
  | inl e ↦ eq-eqb a b e ∙ sym (eq-eqb c d (f e))
  | inr n ↦ ne_eqb a b n ∙ sym (ne_eqb c d (λ e. n (g e)))
]

-- what a filter lets through passes
pub listed_passes : (p : ℕ → Bool) (xs : List ℕ) (o : ℕ) → list_any (nat_eq o) (filter p xs) ≡ true → p o ≡ true
listed_passes p [] o h = absurd (false≢true h)
listed_passes p (x ∷ xs) o h = elim (cases_Bool (p x)) [
  | inl pass ↦
      let listed = rw pass at h in
      elim (or_cases (nat_eq o x) (list_any (nat_eq o) (filter p xs)) listed) [
        | inl same ↦ rw (eqb-true o x same) pass
        | inr later ↦ listed_passes p xs o later
      ]
  | inr fail ↦ let later = rw fail at h in listed_passes p xs o later
]

-- and what passes is let through
pub listed_range : (p : ℕ → Bool) (a n o : ℕ) → a ≤ o → o < a + n → p o ≡ true →
    list_any (nat_eq o) (filter p (range_with_len a n)) ≡ true
listed_range p a zero o low high pass = absurd (omega arith)
listed_range p a (suc n) o low high pass = elim (cases_eq o a) [
  | inl e ↦
      let here : p a ≡ true = ap p (sym e) ∙ pass in
      rw here (or_left (nat_eq o a) (list_any (nat_eq o) (filter p (range_with_len (a + 1) n))) (eq-eqb o a e))
  | inr other ↦
      let above : a + 1 ≤ o = omega arith in
      let below : o < a + 1 + n = omega arith in
      let later = listed_range p (a + 1) n o above below pass in
      elim (cases_Bool (p a)) [
        | inl here ↦ rw here (or_right (nat_eq o a) (list_any (nat_eq o) (filter p (range_with_len (a + 1) n))) later)
        | inr fail ↦ rw fail later
      ]
]

-- two tests that agree on a list find the same
pub find_same : (f g : ℕ → Bool) (xs : List ℕ) → ((o : ℕ) → list_any (nat_eq o) xs ≡ true → f o ≡ g o) →
    find f xs ≡ find g xs
find_same f g [] agree = refl
find_same f g (x ∷ xs) agree =
    let here : f x ≡ g x = agree x (or_left (nat_eq x x) (list_any (nat_eq x) xs) (eq-eqb x x refl)) in
    let later : find f xs ≡ find g xs = find_same f g xs (λ o h.
    agree o (or_right (nat_eq o x) (list_any (nat_eq o) xs) h)) in
    rw (here, later) refl

find_number : (o : ℕ) (xs : List ℕ) → list_any (nat_eq o) xs ≡ true → find (is_number (Some o)) xs ≡ Some o
find_number o [] h = absurd (false≢true h)
find_number o (x ∷ xs) h = elim (cases_eq o x) [
  | inl e ↦ rw (eq-eqb o x e) (ap Some (sym e))
  | inr n ↦ let later = rw (ne_eqb o x n) at h in rw (ne_eqb o x n) (find_number o xs later)
]

find_none : (xs : List ℕ) → find (is_number None) xs ≡ None
find_none [] = refl
find_none (x ∷ xs) = find_none xs

-- what is looked for by its number is found
pub find_object : (object : Option ℕ) (xs : List ℕ) → ((o : ℕ) → object ≡ Some o → list_any (nat_eq o) xs ≡ true) →
    find (is_number object) xs ≡ object
find_object None xs listed = find_none xs
find_object (Some o) xs listed = find_number o xs (listed o refl)

-- what is found is listed, and passes
pub find_listed : (f : ℕ → Bool) (xs : List ℕ) (o : ℕ) → find f xs ≡ Some o → list_any (nat_eq o) xs ≡ true
find_listed f [] o h = absurd (none-some o h)
find_listed f (x ∷ xs) o h = elim (cases_Bool (f x)) [
  | inl pass ↦ let here = rw pass at h in or_left (nat_eq o x) (list_any (nat_eq o) xs)
      (eq-eqb o x (sym (same_Some x o here)))
  | inr fail ↦ let later = rw fail at h in or_right (nat_eq o x) (list_any (nat_eq o) xs) (find_listed f xs o later)
]
