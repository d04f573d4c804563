-- An element of a list, and what stands from it on.
use Rattle.std.proofs.Common.{◌≡◌, ℕ, suc, ◌<◌, ◌-◌, ◌∙◌, sym, ap, List, ◌∷◌, length, drop, take}
use Rattle.std.proofs.Common.{get_or, arith, Some}
use Rattle.std.specs.Prelude.{slice_get}
use Rattle.std.proofs.lemmas.Option.{slice_get_within, get_or_from_slice_get}
use Rattle.std.proofs.Math.Seq.{drop-cons}
use Rattle.std.proofs.lemmas.Grind.{common_steps}

-- all from a place on
pub rest-of : {A : Type 0} (xs : List A) (k : ℕ) → take (length xs - k) (drop k xs) ≡ drop k xs
rest-of xs k = grind (arith, common_steps)

-- the element of a place stands first among those from it on
pub element-first : {A : Type 0} (xs : List A) (k next : ℕ) (x d : A) → k < length xs → next ≡ suc k →
    x ≡ get_or xs k d → drop k xs ≡ x ∷ drop next xs
element-first xs k next x d less n e = drop-cons xs k d less ∙ ap (λ y. y ∷ drop (suc k) xs) (sym e)
    ∙ ap (λ m. x ∷ drop m xs) (sym n)

-- the same by what a look-up gives
pub drop-got : {A : Type 0} (xs : List A) (k : ℕ) (x : A) → slice_get xs k ≡ Some x → drop k xs ≡ x ∷ drop (suc k) xs
drop-got xs k x e = drop-cons xs k x (slice_get_within xs k x e)
    ∙ ap (λ y. y ∷ drop (suc k) xs) (get_or_from_slice_get xs k x x e)
