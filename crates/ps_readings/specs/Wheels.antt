-- The ways to take one item of each list, from one way on, in their order: the first list's item changes slowest. A
-- wheel is a list with the place of the item that it shows.
use Rattle.std.specs.Prelude.{◌+◌, nat_eq, nat_lt, Bool, if◌then◌else◌, Option, Some, None, List, [], ◌∷◌, ◌++◌, length}
use Rattle.std.specs.Prelude.{map, drop, slice_get}
use Rattle.std.specs.Option.{option_to_list}
use Rattle.std.specs.List.{flat_map, list_any, list_all}
use Rattle.ps_model.specs.meaning.Readings.{one_of_each}
use Rattle.ps_readings.specs.declared.wheels.Wheel.{Wheel}

-- the lists of wheels
abbrev pub lists_of : {A : Type 0} → List (Wheel A) → List (List A)
lists_of wheels = map (λ wheel. wheel.items) wheels

-- the first of some items goes before the ways that are left of what follows, and each other one before all of them
abbrev pub with_first : {A : Type 0} → List A → List (List A) → List (List A) → List (List A)
with_first [] left all = []
with_first (first ∷ others) left all = map (λ way. first ∷ way) left ++ flat_map (λ item.
    map (λ way. item ∷ way) all) others

-- the ways from the one that wheels show on
abbrev pub ways_from : {A : Type 0} → List (Wheel A) → List (List A)
ways_from [] = [] ∷ []
ways_from (wheel ∷ wheels) = with_first (drop wheel.place wheel.items) (ways_from wheels)
    (one_of_each (lists_of wheels))

-- the way that wheels show
abbrev pub way_shown : {A : Type 0} → List (Wheel A) → List A
way_shown [] = []
way_shown (wheel ∷ wheels) = option_to_list (slice_get wheel.items wheel.place) ++ way_shown wheels

-- the wheel shows its first item
abbrev pub at_first : {A : Type 0} → Wheel A → Wheel A
at_first wheel = record wheel { place = 0 }

-- the wheel shows its next item
abbrev pub at_next : {A : Type 0} → Wheel A → Wheel A
at_next wheel = record wheel { place = wheel.place + 1 }

-- a wheel before others that show their next way; where they have none, the wheel shows its next item, if it has one,
-- and they their first ones
abbrev pub carried : {A : Type 0} → Wheel A → List (Wheel A) → Option (List (Wheel A)) → Option (List (Wheel A))
carried wheel wheels (Some next) = Some (wheel ∷ next)
carried wheel wheels None = if nat_lt (wheel.place + 1) (length wheel.items) then Some
    (at_next wheel ∷ map at_first wheels) else None

-- the wheels, showing the next way, if there is one
abbrev pub next_wheels : {A : Type 0} → List (Wheel A) → Option (List (Wheel A))
next_wheels [] = None
next_wheels (wheel ∷ wheels) = carried wheel wheels (next_wheels wheels)

-- the ways that are left after a way
abbrev pub ways_behind : {A : Type 0} → Option (List (Wheel A)) → List (List A)
ways_behind None = []
ways_behind (Some wheels) = ways_from wheels

-- each wheel shows an item
abbrev pub are_showing : {A : Type 0} → List (Wheel A) → Bool
are_showing wheels = list_all (λ wheel. nat_lt wheel.place (length wheel.items)) wheels

-- some wheel has no items
abbrev pub has_empty : {A : Type 0} → List (Wheel A) → Bool
has_empty wheels = list_any (λ wheel. nat_eq (length wheel.items) 0) wheels

-- the ways that are still to come
abbrev pub ways_left : {A : Type 0} → Bool → List (Wheel A) → List (List A)
ways_left ended wheels = if ended then [] else ways_from wheels

-- ways of which the first is taken, if there is one
abbrev pub taken : {A : Type 0} → Bool → A → List A → List A
taken more first others = if more then first ∷ others else []
