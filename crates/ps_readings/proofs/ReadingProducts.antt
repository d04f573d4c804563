-- How many readings a rule has, as a product: of its directions, and of the ways in which its items can be read.
use Rattle.std.proofs.Common.{◌≡◌, ℕ, suc, ◌+◌, ◌*◌, Bool, true, false, Option, Some, None, List, [], ◌∷◌, ◌++◌, length}
use Rattle.std.proofs.Common.{map, fold, refl, sym, ap, ap₂, ◌∙◌, arith}
use Rattle.std.specs.Prelude.{if◌then◌else◌}
use Rattle.std.specs.List.{filter_map}
use Rattle.std.proofs.lemmas.List.{length-map}
use Rattle.std.proofs.Math.Nat.{mul-mul-mul_comm, mul_assoc, one-mul}
use Rattle.ps_model.specs.declared.pieces.Direction.{Direction}
use Rattle.ps_model.specs.declared.pieces.Direction.TheVariants.{Up, Down, Left, Right}
use Rattle.ps_model.specs.declared.pieces.Motion.{Motion}
use Rattle.ps_model.specs.declared.pieces.ObjectId.{ObjectId}
use Rattle.ps_model.specs.declared.rules.MovementWord.{MovementWord}
use Rattle.ps_model.specs.declared.rules.MovementWord.TheVariants as word
use Rattle.ps_model.specs.meaning.Directions.{along, left_of}
use Rattle.ps_model.specs.names.Names.{Meaning, Names, members}
use Rattle.ps_model.specs.rules.SourceRules.{Item, Is, No, SourceRule}
use Rattle.ps_model.specs.meaning.Occurrences.{is_fixed, left_items}
use Rattle.ps_model.specs.meaning.Readings.{ways, move_choices, member_choices, moves_for, all_move_choices}
use Rattle.ps_model.specs.meaning.Readings.{all_member_choices, reading_count, directions_of}
use Rattle.ps_readings.specs.ItemWays.{move_ways, member_ways, item_ways}

-- the ways of a choice that may be absent
abbrev ways_if : {A : Type 0} → Option (List A) → ℕ
ways_if None = 1
ways_if (Some items) = length items

ways_by : {X A : Type 0} (choice : X → Option (List A)) (x : X) (xs : List X) (chosen : Option (List A)) →
    choice x ≡ chosen →
    ways (filter_map choice (x ∷ xs)) ≡ ways_if chosen * ways (filter_map choice xs)
ways_by choice x xs None e = rw e (sym (one-mul (ways (filter_map choice xs))))
ways_by choice x xs (Some items) e = rw e refl

two_along : (direction : Direction) → length (along direction) ≡ 2
two_along Up = refl
two_along Down = refl
two_along Left = refl
two_along Right = refl

numbered : (number : ℕ) (motions : List Motion) →
    ways_if (Some (map (λ (motion : Motion). let choice : ℕ × Motion = (number, motion) in choice) motions)) ≡ length
    motions
numbered number motions = length-map motions _

moves-of_word : (direction : Direction) (number : ℕ) (word : MovementWord) (meaning : Meaning) →
    ways_if (moves_for direction number word) ≡ move_ways (Is number (Some word) meaning)
moves-of_word direction number word.Forwards meaning = refl
moves-of_word direction number word.Backwards meaning = refl
moves-of_word direction number word.TurnedLeft meaning = refl
moves-of_word direction number word.TurnedRight meaning = refl
moves-of_word direction number word.Parallel meaning = numbered number (along direction) ∙ two_along direction
moves-of_word direction number word.Perpendicular meaning = numbered number (along (left_of direction))
    ∙ two_along (left_of direction)
moves-of_word direction number word.Up meaning = refl
moves-of_word direction number word.Down meaning = refl
moves-of_word direction number word.Left meaning = refl
moves-of_word direction number word.Right meaning = refl
moves-of_word direction number word.Action meaning = refl
moves-of_word direction number word.Stationary meaning = refl
moves-of_word direction number word.Moving meaning = refl
moves-of_word direction number word.Orthogonal meaning = refl
moves-of_word direction number word.Horizontal meaning = refl
moves-of_word direction number word.Vertical meaning = refl

moves-of : (direction : Direction) (item : Item) → ways_if (move_choices direction item) ≡ move_ways item
moves-of direction (Is number None meaning) = refl
moves-of direction (Is number (Some word) meaning) = moves-of_word direction number word meaning
moves-of direction (No meaning) = refl

members-by : (names : Names) (rule : SourceRule) (number : ℕ) (meaning : Meaning) (fixed : Bool) →
    ways_if (if fixed then Some (map (λ (object : ObjectId). let choice : ℕ × ObjectId = (number, object) in
    choice) (members meaning)) else None) ≡ (if fixed then length (members meaning) else 1)
members-by names rule number meaning true = length-map (members meaning) _
members-by names rule number meaning false = refl

members-of : (names : Names) (rule : SourceRule) (item : Item) →
    ways_if (member_choices names rule item) ≡ member_ways names rule item
members-of names rule (Is number word meaning) = members-by names rule number meaning (is_fixed names rule meaning)
members-of names rule (No meaning) = refl

-- the ways of items are those of their moves and those of their members
pub ways-of_items : (names : Names) (rule : SourceRule) (direction : Direction) (items : List Item) →
    ways (filter_map (move_choices direction) items) * ways (filter_map (member_choices names rule) items) ≡ item_ways
    names rule items
ways-of_items names rule direction [] = refl
ways-of_items names rule direction (item ∷ items) =
    let m : ℕ = ways (filter_map (move_choices direction) items) in
    let n : ℕ = ways (filter_map (member_choices names rule) items) in
    ap₂ (λ a b. a * b)
    (ways_by (move_choices direction) item items _ refl ∙ ap (λ a. a * m) (moves-of direction item))
    (ways_by (member_choices names rule) item items _ refl ∙ ap (λ b. b * n) (members-of names rule item))
    ∙ mul-mul-mul_comm (move_ways item) m (member_ways names rule item) n
    ∙ ap (λ r. move_ways item * member_ways names rule item * r) (ways-of_items names rule direction items)

-- the same for each direction
each_direction : (of : Direction → ℕ) (same : ℕ) → ((direction : Direction) → of direction ≡ same) →
    (sum : ℕ) (directions : List Direction) →
    fold (λ sum direction. sum + of direction) sum directions ≡ sum + length directions * same
each_direction of same e sum [] = omega arith
each_direction of same e sum (first ∷ others) =
    let first_is : of first ≡ same = e first in
    let rest = each_direction of same e (sum + of first) others in
    let turn : suc (length others) * same ≡ same + length others * same = omega arith in
    omega arith

pub count-product : (names : Names) (rule : SourceRule) →
    reading_count names rule ≡ length (directions_of rule) * item_ways names rule (left_items rule)
count-product names rule =
    let all : ℕ = length (directions_of rule) * item_ways names rule (left_items rule) in
    let none : 0 + all ≡ all = omega arith in
    each_direction (λ direction. ways (all_move_choices rule direction) * ways (all_member_choices names rule))
    (item_ways names rule (left_items rule))
    (λ direction. ways-of_items names rule direction (left_items rule)) 0 (directions_of rule)
    ∙ none

-- the items of some cells, and then those of others
pub ways-append : (names : Names) (rule : SourceRule) (front behind : List Item) →
    item_ways names rule (front ++ behind) ≡ item_ways names rule front * item_ways names rule behind
ways-append names rule [] behind = sym (one-mul (item_ways names rule behind))
ways-append names rule (item ∷ items) behind =
    ap (λ r. move_ways item * member_ways names rule item * r) (ways-append names rule items behind)
    ∙ sym (mul_assoc (move_ways item * member_ways names rule item) (item_ways names rule items)
    (item_ways names rule behind))
