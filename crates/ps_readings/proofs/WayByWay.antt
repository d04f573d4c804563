-- The way that wheels show is the first of those from it on, and what is left after it is what their next turn shows.
use Rattle.std.proofs.Common.{◌≡◌, ℕ, zero, suc, ◌+◌, ◌<◌, ◌≤◌, ◌||◌, Bool, true, false, cond, Option, Some, None, List}
use Rattle.std.proofs.Common.{[], ◌∷◌, ◌++◌, length, map, take, drop, set, get_or, refl, sym, ap, ◌∙◌, arith, add-one}
use Rattle.std.specs.Prelude.{slice_get, nat_lt, nat_eq, not, ⊤}
use Rattle.std.specs.List.{flat_map}
use Rattle.std.proofs.lemmas.Bool.Decides.{nat_tests}
use Rattle.std.proofs.lemmas.List.{drop_all, take-take, get_or-take, set_split, get_or_default, map-append}
use Rattle.ps_laws.proofs.common.Truths.{other_holds}
use Rattle.ps_rules.proofs.Loops.{drop-at}
use Rattle.std.proofs.lemmas.Option.{cond_some, same_Some}
use Rattle.std.proofs.lemmas.Bool.{ltb-true, and_parts, or_parts}
use Rattle.ps_model.specs.meaning.Readings.{one_of_each}
use Rattle.ps_readings.specs.declared.wheels.Wheel.{Wheel}
use Rattle.ps_readings.specs.Wheels.{lists_of, with_first, ways_from, way_shown, at_first, at_next, carried}
use Rattle.ps_readings.specs.Wheels.{next_wheels, ways_behind, are_showing, has_empty, ways_left}

-- lists ---------------------------------------------------------------------------------------------------------------

-- what stands at a place within a list
at-place : {A : Type 0} (items : List A) (place : ℕ) → place < length items →
    (x : A) × (drop place items ≡ x ∷ drop (suc place) items) × (slice_get items place ≡ Some x)
at-place [] place h = absurd (omega arith)
at-place (x ∷ items) zero h = (x, refl, refl)
at-place (x ∷ items) (suc place) h = at-place items place (omega arith)

-- before no ways there is none
flat_none : {A : Type 0} (items : List A) → flat_map (λ (item : A). map (λ (way : List A). item ∷ way) []) items ≡ []
flat_none [] = refl
flat_none (item ∷ items) = flat_none items

above : (n m : ℕ) → nat_lt n m ≡ false → m ≤ n
above n m h = grind (arith, nat_tests)

-- first ways ----------------------------------------------------------------------------------------------------------

with_first-all : {A : Type 0} (items : List A) (all : List (List A)) →
    with_first items all all ≡ flat_map (λ item. map (λ way. item ∷ way) all) items
with_first-all [] all = refl
with_first-all (item ∷ items) all = refl

-- wheels at their first items have the same lists
pub lists-first : {A : Type 0} (wheels : List (Wheel A)) → lists_of (map at_first wheels) ≡ lists_of wheels
lists-first [] = refl
lists-first (wheel ∷ wheels) = ap (λ lists. wheel.items ∷ lists) (lists-first wheels)

-- one more wheel has one more list
pub wheel_more : {A : Type 0} (wheels grown : List (Wheel A)) (items : List A) (lists : List (List A)) →
    grown ≡ wheels ++ record { items = items; place = 0 } ∷ [] → lists_of wheels ≡ lists →
    lists_of grown ≡ lists ++ items ∷ []
wheel_more wheels grown items lists e before =
    ap lists_of e ∙ map-append (λ wheel. wheel.items) wheels (record { items = items; place = 0 } ∷ [])
    ∙ ap (λ l. l ++ items ∷ []) before

-- from the first way on there are all
pub ways-first : {A : Type 0} (wheels : List (Wheel A)) →
    ways_from (map at_first wheels) ≡ one_of_each (lists_of wheels)
ways-first [] = refl
ways-first (wheel ∷ wheels) = rw (ways-first wheels, lists-first wheels)
    (with_first-all wheel.items (one_of_each (lists_of wheels)))

-- with an empty list there is no way
none-of : {A : Type 0} (items : List A) (others : List (List A)) (empty : Bool) → (empty ≡ true → others ≡ []) →
    nat_eq (length items) 0 || empty ≡ true →
    flat_map (λ item. map (λ way. item ∷ way) others) items ≡ []
none-of [] others empty none h = refl
none-of {A} (item ∷ items) others empty none h =
    let full : nat_eq (suc (length items)) 0 ≡ false = grind (arith, nat_tests) in
    let gone : others ≡ [] = none (other_holds (nat_eq (suc (length items)) 0) empty h full) in
    ap (λ (rest : List (List A)). flat_map (λ (x : A). map (λ (way : List A). x ∷ way) rest) (item ∷ items)) gone
    ∙ flat_none (item ∷ items)

pub ways-none : {A : Type 0} (wheels : List (Wheel A)) → has_empty wheels ≡ true → one_of_each (lists_of wheels) ≡ []
ways-none [] h = cc
ways-none (wheel ∷ wheels) h = none-of wheel.items (one_of_each (lists_of wheels)) (has_empty wheels)
    (ways-none wheels) h

-- each wheel shows an item
abbrev AreShowing : {A : Type 0} → List (Wheel A) → Type 0
AreShowing [] = ⊤
AreShowing (wheel ∷ wheels) = (wheel.place < length wheel.items) × AreShowing wheels

each-showing : {A : Type 0} (wheels : List (Wheel A)) → are_showing wheels ≡ true → AreShowing wheels
each-showing [] h = tt
each-showing (wheel ∷ wheels) h =
    let parts : (nat_lt wheel.place (length wheel.items) ≡ true) × (are_showing wheels ≡ true) =
    and_parts (nat_lt wheel.place (length wheel.items)) (are_showing wheels) h in
    (ltb-true wheel.place (length wheel.items) parts.0, each-showing wheels parts.1)

all-showing : {A : Type 0} (wheels : List (Wheel A)) → AreShowing wheels → are_showing wheels ≡ true
all-showing [] h = refl
all-showing (wheel ∷ wheels) h =
    let here : nat_lt wheel.place (length wheel.items) ≡ true = let less : wheel.place < length wheel.items = h.0 in
    grind (arith, nat_tests) in
    rw (here, all-showing wheels h.1) refl

-- without an empty list, each wheel shows its first item
full : (count : ℕ) → nat_eq count 0 ≡ false → 0 < count
full count h = grind (arith, nat_tests)

each-full : {A : Type 0} (wheels : List (Wheel A)) → has_empty wheels ≡ false → AreShowing (map at_first wheels)
each-full [] h = tt
each-full (wheel ∷ wheels) h =
    let parts : (nat_eq (length wheel.items) 0 ≡ false) × (has_empty wheels ≡ false) =
    or_parts (nat_eq (length wheel.items) 0) (has_empty wheels) h in
    (full (length wheel.items) parts.0, each-full wheels parts.1)

pub showing-full : {A : Type 0} (wheels : List (Wheel A)) → has_empty wheels ≡ false →
    are_showing (map at_first wheels) ≡ true
showing-full wheels h = all-showing (map at_first wheels) (each-full wheels h)

-- first items make no list empty
empty-is-first : {A : Type 0} (wheels : List (Wheel A)) → has_empty (map at_first wheels) ≡ has_empty wheels
empty-is-first [] = refl
empty-is-first (wheel ∷ wheels) = ap (λ empty. nat_eq (length wheel.items) 0 || empty) (empty-is-first wheels)

empty-first : {A : Type 0} (wheels : List (Wheel A)) → has_empty (map at_first wheels) ≡ true → has_empty wheels ≡ true
empty-first wheels h = sym (empty-is-first wheels) ∙ h

full-first : {A : Type 0} (wheels : List (Wheel A)) → has_empty (map at_first wheels) ≡ false → has_empty wheels ≡ false
full-first wheels h = sym (empty-is-first wheels) ∙ h

-- the next way --------------------------------------------------------------------------------------------------------

-- wheels that show an item have one that is their first
showing-first : {A : Type 0} (wheels : List (Wheel A)) → AreShowing wheels → AreShowing (map at_first wheels)
showing-first [] h = tt
showing-first (wheel ∷ wheels) h = let here : wheel.place < length wheel.items = h.0 in
    (omega arith, showing-first wheels h.1)

-- the next wheels have the same lists, and show items
lists-carried : {A : Type 0} (wheel : Wheel A) (wheels : List (Wheel A)) (next : Option (List (Wheel A))) →
    ((vs : List (Wheel A)) → next ≡ Some vs → lists_of vs ≡ lists_of wheels) →
    (vs : List (Wheel A)) → carried wheel wheels next ≡ Some vs → lists_of vs ≡ lists_of (wheel ∷ wheels)
lists-carried wheel wheels (Some us) same vs e =
    rw (← same_Some (wheel ∷ us) vs e) (ap (λ lists. wheel.items ∷ lists) (same us refl))
lists-carried wheel wheels None same vs e =
    rw (← (cond_some (nat_lt (wheel.place + 1) (length wheel.items)) (at_next wheel ∷ map at_first wheels) vs e).1)
    (ap (λ lists. wheel.items ∷ lists) (lists-first wheels))

pub lists-next : {A : Type 0} (wheels : List (Wheel A)) (vs : List (Wheel A)) → next_wheels wheels ≡ Some vs →
    lists_of vs ≡ lists_of wheels
lists-next [] vs e = cc
lists-next (wheel ∷ wheels) vs e = lists-carried wheel wheels (next_wheels wheels) (lists-next wheels) vs e

showing-carried : {A : Type 0} (wheel : Wheel A) (wheels : List (Wheel A)) (next : Option (List (Wheel A))) →
    AreShowing (wheel ∷ wheels) →
    ((vs : List (Wheel A)) → next ≡ Some vs → AreShowing vs) → (vs : List (Wheel A)) →
    carried wheel wheels next ≡ Some vs → AreShowing vs
showing-carried wheel wheels (Some us) h rest vs e = rw (← same_Some (wheel ∷ us) vs e) (h.0, rest us refl)
showing-carried wheel wheels None h rest vs e =
    let parts = cond_some (nat_lt (wheel.place + 1) (length wheel.items)) (at_next wheel ∷ map at_first wheels) vs e in
    rw (← parts.1) (ltb-true (wheel.place + 1) (length wheel.items) parts.0, showing-first wheels h.1)

each-next : {A : Type 0} (wheels : List (Wheel A)) (vs : List (Wheel A)) → AreShowing wheels →
    next_wheels wheels ≡ Some vs → AreShowing vs
each-next [] vs h e = cc
each-next (wheel ∷ wheels) vs h e = showing-carried wheel wheels (next_wheels wheels) h (λ us.
    each-next wheels us h.1) vs e

pub showing-next : {A : Type 0} (wheels vs : List (Wheel A)) → are_showing wheels ≡ true →
    next_wheels wheels ≡ Some vs → are_showing vs ≡ true
showing-next wheels vs h e = all-showing vs (each-next wheels vs (each-showing wheels h) e)

-- the way that is shown comes first of those from it on
step-last : {A : Type 0} (wheel : Wheel A) (wheels : List (Wheel A)) (x : A) (more : Bool) →
    nat_lt (wheel.place + 1) (length wheel.items) ≡ more →
    drop wheel.place wheel.items ≡ x ∷ drop (wheel.place + 1) wheel.items →
    slice_get wheel.items wheel.place ≡ Some x → ways_from wheels ≡ way_shown wheels ∷ [] →
    ways_from (wheel ∷ wheels) ≡ way_shown (wheel ∷ wheels) ∷ ways_behind
    (cond more (Some (at_next wheel ∷ map at_first wheels)) None)
step-last wheel wheels x true m d g e =
    rw (
      d,
      g,
      e,
      ways-first wheels,
      lists-first wheels,
      with_first-all (drop (wheel.place + 1) wheel.items) (one_of_each (lists_of wheels)),
    ) refl
step-last wheel wheels x false m d g e =
    let past : drop (wheel.place + 1) wheel.items ≡ [] =
    drop_all (wheel.place + 1) wheel.items (above (wheel.place + 1) (length wheel.items) m) in rw (d, g, e, past)
    refl

step-by : {A : Type 0} (wheel : Wheel A) (wheels : List (Wheel A)) (next : Option (List (Wheel A))) (x : A) →
    drop wheel.place wheel.items ≡ x ∷ drop (wheel.place + 1) wheel.items →
    slice_get wheel.items wheel.place ≡ Some x → ways_from wheels ≡ way_shown wheels ∷ ways_behind next →
    ((vs : List (Wheel A)) → next ≡ Some vs → lists_of vs ≡ lists_of wheels) →
    ways_from (wheel ∷ wheels) ≡ way_shown (wheel ∷ wheels) ∷ ways_behind (carried wheel wheels next)
step-by wheel wheels (Some vs) x d g e same = rw (d, g, e, same vs refl) refl
step-by wheel wheels None x d g e same = step-last wheel wheels x (nat_lt (wheel.place + 1) (length wheel.items)) refl
    d g e

each-step : {A : Type 0} (wheels : List (Wheel A)) → AreShowing wheels →
    ways_from wheels ≡ way_shown wheels ∷ ways_behind (next_wheels wheels)
each-step [] h = refl
each-step (wheel ∷ wheels) h =
    let found = at-place wheel.items wheel.place h.0 in
    step-by wheel wheels (next_wheels wheels) found.0 (rw (add-one wheel.place) found.1) found.2 (each-step wheels h.1)
    (lists-next wheels)

pub ways-step : {A : Type 0} (wheels : List (Wheel A)) → are_showing wheels ≡ true →
    ways_from wheels ≡ way_shown wheels ∷ ways_behind (next_wheels wheels)
ways-step wheels h = each-step wheels (each-showing wheels h)

-- from the last wheel on ----------------------------------------------------------------------------------------------

-- the next way of the wheels from a place on is that of all
pub next-behind : {A : Type 0} (place : ℕ) (wheels vs : List (Wheel A)) → next_wheels (drop place wheels) ≡ Some vs →
    next_wheels wheels ≡ Some (take place wheels ++ vs)
next-behind zero wheels vs e = e
next-behind (suc place) [] vs e = cc
next-behind (suc place) (wheel ∷ wheels) vs e = rw (next-behind place wheels vs e) refl

-- a wheel that has a next item, before others that have no next way
pub next-here : {A : Type 0} (place : ℕ) (wheels : List (Wheel A)) (wheel : Wheel A) →
    drop place wheels ≡ wheel ∷ drop (place + 1) wheels → next_wheels (drop (place + 1) wheels) ≡ None →
    wheel.place + 1 < length wheel.items → next_wheels (drop place wheels) ≡ Some
    (at_next wheel ∷ map at_first (drop (place + 1) wheels))
next-here place wheels wheel d none less = let more : nat_lt (wheel.place + 1) (length wheel.items) ≡ true =
    grind (arith, nat_tests) in rw (d, none, more) refl

-- a wheel that has none
pub none-here : {A : Type 0} (place : ℕ) (wheels : List (Wheel A)) (wheel : Wheel A) →
    drop place wheels ≡ wheel ∷ drop (place + 1) wheels → next_wheels (drop (place + 1) wheels) ≡ None →
    length wheel.items ≤ wheel.place + 1 → next_wheels (drop place wheels) ≡ None
none-here place wheels wheel d none less = let more : nat_lt (wheel.place + 1) (length wheel.items) ≡ false =
    grind (arith, nat_tests) in rw (d, none, more) refl

-- the loop from the last wheel on finds the next way
same-front : {A : Type 0} (place k : ℕ) (old now : List A) → place ≡ k + 1 → take place now ≡ take place old →
    take k now ≡ take k old
same-front place k old now e front =
    let low : k ≤ place = omega arith in sym (take-take k place now low) ∙ ap (take k) front ∙ take-take k place old low

same-there : {A : Type 0} (place k : ℕ) (old now : List A) (d : A) → place ≡ k + 1 → take place now ≡ take place old →
    get_or now k d ≡ get_or old k d
same-there place k old now d e front =
    let low : k < place = omega arith in sym (get_or-take place now k d low) ∙ ap (λ l. get_or l k d) front
    ∙ get_or-take place old k d low

pub turned-here : {A : Type 0} (place k : ℕ) (old now : List (Wheel A)) (wheel : Wheel A) → place ≡ k + 1 →
    place ≤ length old → length now ≡ length old → take place now ≡ take place old →
    drop place now ≡ map at_first (drop place old) → next_wheels (drop place old) ≡ None → wheel ≡ get_or now k wheel →
    wheel.place + 1 < length wheel.items →
    next_wheels old ≡ Some (set now k (at_next wheel))
turned-here place k old now wheel e within long front behind none is less =
    let low : k < length old = omega arith in
    let here : k < length now = omega arith in
    let next : k + 1 ≡ suc k = omega arith in
    let there : drop k old ≡ wheel ∷ drop (k + 1) old =
    drop-at wheel old k (k + 1) low (is ∙ same-there place k old now wheel e front) next in
    let last : next_wheels (drop (k + 1) old) ≡ None = rw (← e) none in
    let rest : drop (suc k) now ≡ map at_first (drop (k + 1) old) = rw (← next, ← e) behind in
    next-behind k old _ (next-here k old wheel there last less)
    ∙ ap (λ front. Some (front ++ at_next wheel ∷ map at_first (drop (k + 1) old)))
    (sym (same-front place k old now e front))
    ∙ ap (λ behind. Some (take k now ++ at_next wheel ∷ behind)) (sym rest)
    ∙ ap Some (sym (set_split now k (at_next wheel) here))

-- the loop ends at the first wheel, with no next way
pub ended-none : {A : Type 0} (place : ℕ) (old : List (Wheel A)) → place ≤ 0 → next_wheels (drop place old) ≡ None →
    next_wheels old ≡ None
ended-none zero old end none = none
ended-none (suc place) old end none = absurd (omega arith)

pub ended-first : {A : Type 0} (place : ℕ) (old now : List (Wheel A)) → place ≤ 0 →
    drop place now ≡ map at_first (drop place old) → now ≡ map at_first old
ended-first zero old now end behind = behind
ended-first (suc place) old now end behind = absurd (omega arith)

-- two reads of one place
pub same-read : {A : Type 0} (xs : List A) (k : ℕ) (x y : A) → k < length xs → x ≡ get_or xs k x → y ≡ get_or xs k y →
    x ≡ y
same-read xs k x y less e f = e ∙ get_or_default xs k x y less ∙ sym f

-- what is left after a start, and after a turn ------------------------------------------------------------------------

pub showing-started : {A : Type 0} (old new : List (Wheel A)) → new ≡ map at_first old → has_empty new ≡ false →
    are_showing new ≡ true
showing-started old new e full = rw e (showing-full old (full-first old (rw e at full)))

pub ways-started : {A : Type 0} (old new : List (Wheel A)) (empty : Bool) → new ≡ map at_first old →
    empty ≡ has_empty new → ways_left empty new ≡ one_of_each (lists_of old)
ways-started old new true e none = sym (ways-none old (empty-first old (rw e at (sym none))))
ways-started old new false e none = rw e (ways-first old)

pub showing-turned : {A : Type 0} (old new : List (Wheel A)) (more : Bool) → are_showing old ≡ true →
    (more ≡ true → next_wheels old ≡ Some new) → not more ≡ false → are_showing new ≡ true
showing-turned old new true showing next h = showing-next old new showing (next refl)
showing-turned old new false showing next h = cc

pub lists-turned : {A : Type 0} (old new : List (Wheel A)) (more : Bool) → (more ≡ true → next_wheels old ≡ Some new) →
    (more ≡ false → new ≡ map at_first old) → lists_of new ≡ lists_of old
lists-turned old new true next first = lists-next old new (next refl)
lists-turned old new false next first = rw (first refl) (lists-first old)

pub ways-turned : {A : Type 0} (ended : Bool) (old new : List (Wheel A)) (more : Bool) (way : List A) → ended ≡ false →
    are_showing old ≡ true → (more ≡ true → next_wheels old ≡ Some new) →
    (more ≡ false → next_wheels old ≡ None) → way ≡ way_shown old → ways_left ended old ≡ way ∷ ways_left (not more) new
ways-turned ended old new true way going showing next none is =
    rw (going, is) (ways-step old showing ∙ ap (λ w. way_shown old ∷ ways_behind w) (next refl))
ways-turned ended old new false way going showing next none is =
    rw (going, is) (ways-step old showing ∙ ap (λ w. way_shown old ∷ ways_behind w) (none refl))
