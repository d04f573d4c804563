-- A turn of a loop over a list, and its end.
use Rattle.std.proofs.Common.{◌≡◌, ◌∙◌, ℕ, ◌+◌, ◌<◌, List, ◌∷◌, ◌++◌, length, drop, get_or, Option, None, Some, refl}
use Rattle.std.proofs.Common.{sym, ap, append_assoc, add-one}
use Rattle.std.specs.List.{cons_option}
use Rattle.std.specs.Option.{option_to_list}
use Rattle.ps_names.proofs.common.Elements.{element-first}

-- one turn more of a loop that makes a list: what it makes of an element is put after what was made
pub made-more : {A B : Type 0} (f : List A → List B) (made made' one all : List B) (xs : List A) (i : ℕ) (x d : A) →
    made' ≡ made ++ one → i < length xs → x ≡ get_or xs i d →
    f (x ∷ drop (i + 1) xs) ≡ one ++ f (drop (i + 1) xs) → made ++ f (drop i xs) ≡ all →
    made' ++ f (drop (i + 1) xs) ≡ all
made-more f made made' one all xs i x d e less is step so_far =
    ap (λ m. m ++ f (drop (i + 1) xs)) e ∙ append_assoc made one (f (drop (i + 1) xs))
    ∙ ap (λ ys. made ++ ys) (sym step)
    ∙ ap (λ ys. made ++ f ys) (sym (element-first xs i (i + 1) x d less (add-one i) is)) ∙ so_far

-- what may come first
pub option-first : {A : Type 0} (first : Option A) (others : List A) →
    cons_option first others ≡ option_to_list first ++ others
option-first None others = refl
option-first (Some first) others = refl
