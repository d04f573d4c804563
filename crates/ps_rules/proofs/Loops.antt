-- The end of a loop over a list.
use Rattle.std.proofs.Common.{◌≡◌, ℕ, suc, ◌≤◌, ◌<◌, List, [], ◌∷◌, ◌++◌, length, drop, get_or, sym, ap, ◌∙◌}
use Rattle.std.proofs.Math.Seq.{drop-cons}
use Rattle.std.proofs.lemmas.List.{append-nil, at_drop_all}

-- what was made is all, as nothing is left of which more is to be made
pub loop-end : {A B : Type 0} (made all : List B) (f : List A → List B) (xs : List A) (i : ℕ) → f [] ≡ [] →
    made ++ f (drop i xs) ≡ all → length xs ≤ i → made ≡ all
loop-end made all f xs i none e past = sym (append-nil made) ∙ ap (λ ys. made ++ ys) (sym none)
    ∙ sym (at_drop_all (λ ys. made ++ f ys) xs i past) ∙ e

-- what stands at a place comes first among what is left there
pub drop-at : {A : Type 0} (x : A) (xs : List A) (i k : ℕ) → i < length xs → x ≡ get_or xs i x → k ≡ suc i →
    drop i xs ≡ x ∷ drop k xs
drop-at x xs i k less e next = rw next (drop-cons xs i x less ∙ ap (λ y. y ∷ drop (suc i) xs) (sym e))

-- the same by a default
pub drop-from : {A : Type 0} (x d : A) (xs : List A) (i k : ℕ) → i < length xs → x ≡ get_or xs i d → k ≡ suc i →
    drop i xs ≡ x ∷ drop k xs
drop-from x d xs i k less e next = rw next (drop-cons xs i d less ∙ ap (λ y. y ∷ drop (suc i) xs) (sym e))
