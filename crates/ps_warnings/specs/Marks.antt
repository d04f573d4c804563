-- Marks by numbers, and lists of numbers.
use Rattle.std.specs.Prelude.{ℕ, nat_eq, Bool, true, false, List, [], ◌∷◌, slice_set, slice_index_or}
use Rattle.std.specs.List.{list_any}

-- the number is one of these
abbrev pub is_one_of : List ℕ → ℕ → Bool
is_one_of numbers number = list_any (nat_eq number) numbers

-- marks, and more at these numbers; one past the marks has none
abbrev pub marked : List Bool → List ℕ → List Bool
marked marks [] = marks
marked marks (number ∷ numbers) = marked (slice_set marks number true) numbers

-- the number has a mark
abbrev pub is_marked : List Bool → ℕ → Bool
is_marked marks number = slice_index_or marks number false
