-- What all lines have as they are shown, the one at a place has.
use Rattle.std.proofs.Common.{◌≡◌, ◌∙◌, ℕ, ◌<◌, List, length, map, get_or, sym, subst, ap}
use Rattle.std.specs.Prelude.{All}
use Rattle.std.proofs.lemmas.List.{length-map, get_or-map}

pub shown_at : {A B : Type 0} (P : B → Type 0) (show : A → B) (xs : List A) (x : A) (i : ℕ) → All P (map show xs) →
    i < length xs → x ≡ get_or xs i x → P (show x)
shown_at P show xs x i all within is =
    subst P (get_or-map show xs i x (show x) within ∙ ap show (sym is))
    (all i (show x) (subst (λ (n : ℕ). i < n) (sym (length-map xs show)) within))
