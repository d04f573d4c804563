use Rattle.std.proofs.Common.{◌≡◌, ℕ, zero, suc, ◌<◌, ◌⊎◌, inl, inr, List, [], ◌∷◌, ◌++◌, length, Option, Some, None, slice_get, refl, sym, ap, ◌∙◌, arith, length-append}
use Rattle.ps_search.specs.Searched.{IsNumbered}

module _ {A : Type 0} where
  -- what has a number keeps it
  pub there_kept : (xs more : List A) (number : ℕ) → number < length xs → slice_get (xs ++ more) number ≡ slice_get xs number
  there_kept [] more number h = absurd (omega arith)
  there_kept (x ∷ xs) more zero h = refl
  there_kept (x ∷ xs) more (suc number) h = there_kept xs more number (omega arith)

  -- one more has the number next to all
  pub there_last : (xs : List A) (x : A) → slice_get (xs ++ x ∷ []) (length xs) ≡ Some x
  there_last [] x = refl
  there_last (first ∷ rest) x = there_last rest x

  -- each number below the length is that of an element
  pub there : (xs : List A) (number : ℕ) → number < length xs → (x : A) × (slice_get xs number ≡ Some x)
  there [] number h = absurd (omega arith)
  there (x ∷ xs) zero h = (x, refl)
  there (x ∷ xs) (suc number) h = there xs number (omega arith)

  -- with one more, a number is one from before or the last
  pub of_push : (xs : List A) (last x : A) (number : ℕ) → slice_get (xs ++ last ∷ []) number ≡ Some x → (slice_get xs number ≡ Some x) ⊎ ((number ≡ length xs) × (last ≡ x))
  of_push [] last x zero h = inr (refl, cc)
  of_push [] last x (suc number) h = cc
  of_push (first ∷ rest) last x zero h = inl h
  of_push (first ∷ rest) last x (suc number) h = later (of_push rest last x number h)
    where
      later : (slice_get rest number ≡ Some x) ⊎ ((number ≡ length rest) × (last ≡ x)) → (slice_get rest number ≡ Some x) ⊎ ((suc number ≡ suc (length rest)) × (last ≡ x))
      later (inl at) = inl at
      later (inr at) = inr (ap suc at.0, at.1)

  -- what is numbered stays so
  pub numbered_kept : (places more : List A) (place : Option A) → IsNumbered places place → IsNumbered (places ++ more) place
  numbered_kept places more place numbered =
      (numbered.0, (simp (length-append) (omega arith)), numbered.2 ∙ sym (there_kept places more numbered.0 numbered.1))

  -- and is no way past
  pub numbered_is_place : (places : List A) (place : Option A) → IsNumbered places place → place ≡ None → ⊥
  numbered_is_place places place numbered past =
      let found : (x : A) × (slice_get places numbered.0 ≡ Some x) = there places numbered.0 numbered.1 in
      let same = numbered.2 in
      let is : slice_get places numbered.0 ≡ Some found.0 = found.1 in cc
