-- In how many of their first items two lists are alike, where one of them has an item more.
use Rattle.std.proofs.Common.{◌≡◌, ◌∙◌, ℕ, suc, ◌+◌, ◌<◌, ◌≤◌, Bool, true, false, List, [], ◌∷◌, ◌++◌, length, get_or}
use Rattle.std.proofs.Common.{refl, sym, ap, arith}
use Rattle.ps_view.specs.Corners.{alike}

-- behind the end of the second list nothing is alike
pub alike_nothing : {A : Type 0} (same : A → A → Bool) (first : List A) → alike same first [] ≡ 0
alike_nothing same [] = refl
alike_nothing same (item ∷ first) = refl

-- the first items, and those behind them
alike_step : {A : Type 0} (same : A → A → Bool) (x : A) (first : List A) (y : A) (second : List A) (is : Bool) →
    same x y ≡ is →
    alike same (x ∷ first) (y ∷ second) ≡ elim is [ true ↦ suc (alike same first second) | false ↦ 0 ]
alike_step same x first y second is e =
    ap (λ (b : Bool). let n : ℕ = elim b [ true ↦ suc (alike same first second) | false ↦ 0 ] in n) e

-- an item behind one that differs
stays_by : {A : Type 0} (same : A → A → Bool) (x : A) (first : List A) (y : A) (second : List A) (more : A) (is : Bool) →
    same x y ≡ is → alike same (x ∷ first) (y ∷ second) < length (y ∷ second) →
    (alike same first second < length second → alike same first (second ++ more ∷ []) ≡ alike same first second) →
    alike same (x ∷ first) (y ∷ second ++ more ∷ []) ≡ alike same (x ∷ first) (y ∷ second)
stays_by same x first y second more true e low inner =
    let before = alike_step same x first y second true e in
    alike_step same x first y (second ++ more ∷ []) true e ∙ ap suc (inner (omega (arith, before, low))) ∙ sym before
stays_by same x first y second more false e low inner =
    alike_step same x first y (second ++ more ∷ []) false e ∙ sym (alike_step same x first y second false e)

pub alike_stays : {A : Type 0} (same : A → A → Bool) (first second : List A) (more : A) →
    alike same first second < length second → alike same first (second ++ more ∷ []) ≡ alike same first second
alike_stays same [] second more low = refl
alike_stays same (x ∷ first) [] more low = absurd (omega arith)
alike_stays same (x ∷ first) (y ∷ second) more low =
    stays_by same x first y second more (same x y) refl low (λ l. alike_stays same first second more l)

-- an item behind the end of the first list
past_by : {A : Type 0} (same : A → A → Bool) (x : A) (first : List A) (y : A) (second : List A) (more : A) (is : Bool) →
    same x y ≡ is → alike same first (second ++ more ∷ []) ≡ alike same first second →
    alike same (x ∷ first) (y ∷ second ++ more ∷ []) ≡ alike same (x ∷ first) (y ∷ second)
past_by same x first y second more true e inner =
    alike_step same x first y (second ++ more ∷ []) true e ∙ ap suc inner ∙ sym (alike_step same x first y second true e)
past_by same x first y second more false e inner =
    alike_step same x first y (second ++ more ∷ []) false e ∙ sym (alike_step same x first y second false e)

pub alike_past : {A : Type 0} (same : A → A → Bool) (first second : List A) (more : A) → length first ≤ length second →
    alike same first (second ++ more ∷ []) ≡ alike same first second
alike_past same [] second more end = refl
alike_past same (x ∷ first) [] more end = absurd (omega arith)
alike_past same (x ∷ first) (y ∷ second) more end =
    past_by same x first y second more (same x y) refl (alike_past same first second more (omega arith))

-- an item behind a list that is alike as a whole
further_by : {A : Type 0} (same : A → A → Bool) (x : A) (first : List A) (y : A) (second : List A) (more : A)
    (count : ℕ) (is : Bool) → same x y ≡ is → alike same (x ∷ first) (y ∷ second) ≡ length (y ∷ second) →
    (alike same first second ≡ length second → alike same first (second ++ more ∷ []) ≡ length second + count) →
    alike same (x ∷ first) (y ∷ second ++ more ∷ []) ≡ length (y ∷ second) + count
further_by same x first y second more count true e all inner =
    let before = alike_step same x first y second true e in
    let next = inner (omega (arith, before, all)) in
    let here = alike_step same x first y (second ++ more ∷ []) true e in omega (arith, next, here)
further_by same x first y second more count false e all inner =
    let before = alike_step same x first y second false e in absurd (omega (arith, before, all))

-- one that is the same
pub alike_more : {A : Type 0} (same : A → A → Bool) (first second : List A) (more default : A) →
    alike same first second ≡ length second → length second < length first →
    same (get_or first (length second) default) more ≡ true →
    alike same first (second ++ more ∷ []) ≡ length second + 1
alike_more same [] second more default all within is = absurd (omega arith)
alike_more same (x ∷ first) [] more default all within is =
    alike_step same x first more [] true is ∙ ap suc (alike_nothing same first)
alike_more same (x ∷ first) (y ∷ second) more default all within is =
    further_by same x first y second more 1 (same x y) refl all
    (λ e. alike_more same first second more default e (omega arith) is)

-- one that differs
pub alike_differs : {A : Type 0} (same : A → A → Bool) (first second : List A) (more default : A) →
    alike same first second ≡ length second → length second < length first →
    same (get_or first (length second) default) more ≡ false →
    alike same first (second ++ more ∷ []) ≡ length second + 0
alike_differs same [] second more default all within is = absurd (omega arith)
alike_differs same (x ∷ first) [] more default all within is = alike_step same x first more [] false is
alike_differs same (x ∷ first) (y ∷ second) more default all within is =
    further_by same x first y second more 0 (same x y) refl all
    (λ e. alike_differs same first second more default e (omega arith) is)

-- no more are alike than the second list has
bounded_by : {A : Type 0} (same : A → A → Bool) (x : A) (first : List A) (y : A) (second : List A) (is : Bool) →
    same x y ≡ is → alike same first second ≤ length second →
    alike same (x ∷ first) (y ∷ second) ≤ length (y ∷ second)
bounded_by same x first y second true e inner =
    let here = alike_step same x first y second true e in omega (arith, here, inner)
bounded_by same x first y second false e inner =
    let here = alike_step same x first y second false e in omega (arith, here, inner)

pub alike_bounded : {A : Type 0} (same : A → A → Bool) (first second : List A) → alike same first second ≤ length second
alike_bounded same [] second = omega arith
alike_bounded same (x ∷ first) [] = omega arith
alike_bounded same (x ∷ first) (y ∷ second) =
    bounded_by same x first y second (same x y) refl (alike_bounded same first second)
