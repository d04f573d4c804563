-- Lists that are made piece by piece.
use Rattle.std.proofs.Common.{◌≡◌, ℕ, ◌+◌, ◌<◌, List, [], ◌∷◌, ◌++◌, length, drop, map, get_or, Option, Some, None}
use Rattle.std.proofs.Common.{refl, sym, ap, ◌∙◌, append_assoc, add-one}
use Rattle.std.specs.Option.{option_to_list}
use Rattle.std.specs.List.{flat_map, filter_map, cons_option}
use Rattle.std.proofs.lemmas.List.{map-append}
use Rattle.std.proofs.lemmas.List.Elements.{filter_map-append}
use Rattle.ps_rules.proofs.Loops.{drop-from}
use Rattle.ps_names.proofs.common.Loops.{option-first}

-- one more piece is made
pub piece_more : {A : Type 0} (made grown all piece rest : List A) → grown ≡ made ++ piece →
    made ++ (piece ++ rest) ≡ all → grown ++ rest ≡ all
piece_more made grown all piece rest e before = ap (λ l. l ++ rest) e ∙ append_assoc made piece rest ∙ before

-- one more piece is sifted
pub sifted_more : {A B : Type 0} (f : A → Option B) (made grown all : List B) (piece rest : List A) →
    grown ≡ made ++ filter_map f piece → made ++ filter_map f (piece ++ rest) ≡ all → grown ++ filter_map f rest ≡ all
sifted_more f made grown all piece rest e before =
    piece_more made grown all (filter_map f piece) (filter_map f rest) e
    (ap (λ l. made ++ l) (sym (filter_map-append f piece rest)) ∙ before)

-- one more of a list is taken, of which a piece is made
pub list_more : {A B : Type 0} (f : List A → List B) (made grown all piece : List B) (x d : A) (xs : List A) (i : ℕ) →
    f (x ∷ drop (i + 1) xs) ≡ piece ++ f (drop (i + 1) xs) → i < length xs → x ≡ get_or xs i d →
    grown ≡ made ++ piece → made ++ f (drop i xs) ≡ all → grown ++ f (drop (i + 1) xs) ≡ all
list_more f made grown all piece x d xs i step less is e before =
    piece_more made grown all piece (f (drop (i + 1) xs)) e
    (ap (λ l. made ++ l) (sym step) ∙ ap (λ l. made ++ f l) (sym (drop-from x d xs i (i + 1) less is (add-one i)))
    ∙ before)

-- the same, where each of the list is made one
pub mapped_more : {A B : Type 0} (f : A → B) (made grown all : List B) (d : A) (xs : List A) (i : ℕ) →
    i < length xs → grown ≡ made ++ f (get_or xs i d) ∷ [] → made ++ map f (drop i xs) ≡ all →
    grown ++ map f (drop (i + 1) xs) ≡ all
mapped_more f made grown all d xs i less e before =
    list_more (map f) made grown all (f (get_or xs i d) ∷ []) (get_or xs i d) d xs i refl less refl e before

-- one more of a list is sifted
pub sifted_one_more : {A B : Type 0} (f : A → Option B) (made grown all : List B) (d : A) (xs : List A) (i : ℕ) →
    i < length xs → grown ≡ made ++ option_to_list (f (get_or xs i d)) → made ++ filter_map f (drop i xs) ≡ all →
    grown ++ filter_map f (drop (i + 1) xs) ≡ all
sifted_one_more f made grown all d xs i less e before =
    list_more (filter_map f) made grown all (option_to_list (f (get_or xs i d))) (get_or xs i d) d xs i
    (option-first (f (get_or xs i d)) (filter_map f (drop (i + 1) xs))) less refl e before

-- one more of a list, as it is meant, gives a piece, each element of which is made one
pub mapped_piece_more : {A B C D : Type 0} (g : C → D) (f : B → List C) (show : A → B) (made grown all : List D) (d : A)
    (xs : List A) (i : ℕ) → i < length xs → grown ≡ made ++ map g (f (show (get_or xs i d))) →
    made ++ map g (flat_map f (map show (drop i xs))) ≡ all →
    grown ++ map g (flat_map f (map show (drop (i + 1) xs))) ≡ all
mapped_piece_more {A} g f show made grown all d xs i less e before =
    list_more (λ (l : List A). map g (flat_map f (map show l))) made grown all (map g (f (show (get_or xs i d))))
    (get_or xs i d) d xs i (map-append g (f (show (get_or xs i d))) (flat_map f (map show (drop (i + 1) xs)))) less refl
    e before
