-- Parts of a part of a text.
use Rattle.std.proofs.Common.{◌≡◌, ℕ, ◌+◌, ◌-◌, ◌≤◌, List, [], ◌∷◌, ◌++◌, length, take, drop, map, refl, sym, ◌∙◌, ap}
use Rattle.std.proofs.Common.{arith}
use Rattle.std.specs.Prelude.{slice_range}
use Rattle.std.proofs.lemmas.List.{drop-take, drop-drop, map-append, append_assoc}
use Rattle.std.proofs.lemmas.Grind.{common_steps}

take_less : (n m : ℕ) (bytes : List ℕ) → n ≤ m → take n (take m bytes) ≡ take n bytes
take_less n m bytes h = grind (arith, common_steps)

-- a part of a line is a part of the text
pub part_of_line : (text : List ℕ) (start end from to : ℕ) → from ≤ to → start + to ≤ end →
    slice_range (slice_range text start end) from to ≡ slice_range text (start + from) (start + to)
part_of_line text start end from to h l =
    let size : end - start ≡ from + (end - start - from) = omega arith in
    let long : start + to - (start + from) ≡ to - from = omega arith in
    let shifted : drop from (drop start text) ≡ drop (start + from) text = drop-drop from start text in
    let cut : drop from (take (end - start) (drop start text)) ≡ take (end - start - from)
    (drop from (drop start text)) =
    ap (λ (n : ℕ). drop from (take n (drop start text))) size ∙ drop-take from (end - start - from) (drop start text) in
    rw (cut, long) (take_less (to - from) (end - start - from) (drop from (drop start text)) (omega arith)
    ∙ ap (take (to - from)) shifted)

-- one more item, seen in another way
pub item_more : {A B C : Type 0} (f : A → C) (g : B →
    C) (items : List A) (item : A) (before rest : List B) (next : B) (whole : List C) →
    f item ≡ g next → before ≡ next ∷ rest → map f items ++ map g before ≡ whole →
    map f (items ++ item ∷ []) ++ map g rest ≡ whole
item_more f g items item before rest next whole same e told =
    let one : f item ∷ map g rest ≡ map g before = rw (same, e) refl in
    rw map-append (append_assoc (map f items) (f item ∷ []) (map g rest)
    ∙ ap (λ (tail : List _). map f items ++ tail) one ∙ told)

-- a part of a line is a part of the text that the line stands in
pub part_of_text : (text : List ℕ) (start end : ℕ) (line : List ℕ) (from to : ℕ) → slice_range text start end ≡ line →
    start + length line ≡ end → from ≤ to → to ≤ length line →
    slice_range line from to ≡ slice_range text (start + from) (start + to)
part_of_text text start end line from to e l h t = ap (λ (bytes : List ℕ). slice_range bytes from to) (sym e)
    ∙ part_of_line text start end from to h (omega arith)
