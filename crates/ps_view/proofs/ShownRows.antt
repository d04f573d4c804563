-- Rows that are shown: parts of frames, and what stands below them.
use Rattle.std.proofs.Common.{◌≡◌, ◌∙◌, ℕ, suc, zero, ◌+◌, ◌-◌, ◌<◌, ◌≤◌, Bool, true, false, cond, List, [], ◌∷◌, ◌++◌, length, take}
use Rattle.std.proofs.Common.{drop, map}
use Rattle.std.proofs.Common.{refl, sym, ap, arith, append_assoc, min}
use Rattle.std.specs.Prelude.{nat_lt}
use Rattle.std.proofs.lemmas.Bool.Decides.{nat_tests}
use Rattle.std.proofs.lemmas.Grind.{common_steps}
use Rattle.std.proofs.lemmas.List.{map-append}
use Rattle.ps_view.specs.HarmlessTexts.{harmless_text}
use Rattle.ps_view.specs.Rows.{cut, more_mark}
use Rattle.ps_view.specs.Corners.{alike, edge, shown_in, part_from}

-- behind the end of one of two lists nothing is alike
alike_nothing : {A : Type 0} (same : A → A → Bool) (first : List A) → alike same first [] ≡ 0
alike_nothing same [] = refl
alike_nothing same (item ∷ first) = refl

pub alike_passed : {A : Type 0} (same : A → A → Bool) (first second : List A) (place : ℕ) →
    min (length first) (length second) ≤ place → alike same (drop place first) (drop place second) ≡ 0
alike_passed same [] second zero end = refl
alike_passed same (item ∷ first) [] zero end = refl
alike_passed same (item ∷ first) (other ∷ second) zero end = absurd (omega arith)
alike_passed same [] second (suc place) end = refl
alike_passed same (item ∷ first) [] (suc place) end = alike_nothing same (drop place first)
alike_passed same (item ∷ first) (other ∷ second) (suc place) end =
    alike_passed same first second place (omega arith)

-- all of two lists was passed by
pub alike_whole : {A : Type 0} (same : A → A → Bool) (first second : List A) (place shorter : ℕ) →
    shorter ≡ min (length first) (length second) → place ≡ shorter →
    place + alike same (drop place first) (drop place second) ≡ alike same first second →
    shorter ≡ alike same first second
alike_whole same first second place shorter is all so_far =
    let none : alike same (drop place first) (drop place second) ≡ 0 =
    alike_passed same first second place (omega arith) in
    omega (arith, none, so_far, all)

-- so much room has edges, or has none
few_rooms : (room : ℕ) → room < 3 → nat_lt room 3 ≡ true
few_rooms room few = grind (arith, nat_tests)

pub edged_room : (room : ℕ) → 3 ≤ room → shown_in room ≡ room - 2
edged_room room some =
    let test : nat_lt room 3 ≡ false = grind (arith, nat_tests) in ap (λ (b : Bool). cond b room (room - 2)) test

-- a part of a list, cut out of it
pub part_cut : {A : Type 0} (room place : ℕ) (mark blank : A) (items from : List A) → room < length items → 3 ≤ room →
    from ≡ drop (min place (length items)) items →
    part_from room place mark blank items
    ≡ (edge mark blank (nat_lt 0 place) ∷ take (min (room - 2) (length from)) from)
    ++ edge mark blank (nat_lt (room - 2) (length from)) ∷ []
part_cut room place mark blank items from long some is = grind (arith, common_steps, nat_tests)

-- one without edges
pub plain_part_cut : {A : Type 0} (room size place : ℕ) (mark blank : A) (items from : List A) → room < length items →
    room < 3 → size ≡ shown_in room → from ≡ drop (min place (length items)) items →
    part_from room place mark blank items ≡ take (min size (length from)) from
plain_part_cut room size place mark blank items from long few shown is =
    let all : shown_in room ≡ room = ap (λ (b : Bool). cond b room (room - 2)) (few_rooms room few) in
    rw (shown, all, is) (grind (arith, common_steps, nat_tests))

-- a part of a frame, row by row
pub frame_parted : (shown : List ℕ → List ℕ) (rows top : ℕ) (frame from part before one two all : List (List ℕ))
    (first last : List ℕ) → rows < length frame → 3 ≤ rows → from ≡ drop (min top (length frame)) frame →
    part ≡ take (min (rows - 2) (length from)) from →
    first ≡ edge (more_mark ∷ []) [] (nat_lt 0 top) →
    last ≡ edge (more_mark ∷ []) [] (nat_lt (rows - 2) (length from)) →
    one ≡ before ++ shown first ∷ [] → two ≡ one ++ map shown part → all ≡ two ++ shown last ∷ [] →
    all ≡ before ++ map shown (part_from rows top (more_mark ∷ []) [] frame)
frame_parted shown rows top frame from part before one two all first last long some is cut begins ends h i j =
    let parted = part_cut rows top (more_mark ∷ []) [] frame from long some is in
    let whole : first ∷ (part ++ last ∷ []) ≡ part_from rows top (more_mark ∷ []) [] frame =
    rw (begins, ends, cut) (sym parted) in
    j ∙ ap (λ (l : List (List ℕ)). l ++ shown last ∷ []) (i ∙ ap (λ (l : List (List ℕ)). l ++ map shown part) h)
    ∙ ap (λ (l : List (List ℕ)). l ++ shown last ∷ []) (append_assoc before (shown first ∷ []) (map shown part))
    ∙ append_assoc before (shown first ∷ map shown part) (shown last ∷ [])
    ∙ ap (λ (l : List (List ℕ)). before ++ shown first ∷ l) (sym (map-append shown part (last ∷ [])))
    ∙ ap (λ (l : List (List ℕ)). before ++ map shown l) whole

-- the rows of three lines
pub three_lines : (columns : ℕ) (none one two three : List (List ℕ)) (a b c first second third : List ℕ) → none ≡ [] →
    one ≡ none ++ cut columns (harmless_text a) ∷ [] → two ≡ one ++ cut columns (harmless_text b) ∷ [] →
    three ≡ two ++ cut columns (harmless_text c) ∷ [] → a ≡ first → b ≡ second → c ≡ third →
    three ≡ cut columns (harmless_text first) ∷ cut columns (harmless_text second) ∷ cut columns (harmless_text third) ∷ []
three_lines columns none one two three a b c first second third e h i j is_first is_second is_third =
    rw (j, i, h, e, is_first, is_second, is_third) refl
