-- The readings of a rule: a direction, a choice for each left word of several moves, and a member for each left
-- occurrence of a fixed property. They are ordered by direction, then by the moves, then by the members; each of the
-- last two as words of a dictionary are, the first occurrence slowest.
use Rattle.std.specs.Prelude.{ℕ, ◌*◌, nat_eq, Bool, false, ◌&&◌, not, if◌then◌else◌, Option, Some, None, List, [], ◌∷◌}
use Rattle.std.specs.Prelude.{length, map, take, fold, ◌+◌}
use Rattle.std.specs.List.{flat_map, filter_map, list_all, list_any}
use Rattle.ps_model.specs.declared.pieces.ObjectId.{ObjectId}
use Rattle.ps_model.specs.declared.pieces.Direction.{Direction}
use Rattle.ps_model.specs.declared.pieces.Direction.TheVariants.{Up, Down, Left, Right}
use Rattle.ps_model.specs.declared.pieces.Motion.{Motion}
use Rattle.ps_model.specs.declared.rules.MovementWord.{MovementWord}
use Rattle.ps_model.specs.meaning.Directions.{turned, is_several, turns_with_rule}
use Rattle.ps_model.specs.names.Names.{Names, members}
use Rattle.ps_model.specs.rules.SourceRules.{Item, Is, No, CellPair, SourceRule}
use Rattle.ps_model.specs.meaning.Occurrences.{cells_of, left_items, is_fixed}

-- a reading; moves and members by the numbers of the left occurrences that they are chosen for
pub record Reading : Type 0 where
  pub direction : Direction
  pub moves : List (ℕ × Motion)
  pub members : List (ℕ × ObjectId)

-- one item of each list, in all ways: the first list's item changes slowest
abbrev pub one_of_each : {A : Type 0} → List (List A) → List (List A)
one_of_each [] = [] ∷ []
one_of_each (items ∷ others) = flat_map (λ item. map (λ rest. item ∷ rest) (one_of_each others)) items

-- directions ----------------------------------------------------------------------------------------------------------

-- the item has a word that means another move in another direction
abbrev pub item_turns : Item → Bool
item_turns (Is number None meaning) = false
item_turns (Is number (Some word) meaning) = turns_with_rule word
item_turns (No meaning) = false

-- neither side of the cell has such a word
abbrev pub is_steady : CellPair → Bool
is_steady cell = not (list_any item_turns cell.left) && not (list_any item_turns cell.right)

-- the row is one cell
abbrev pub is_one_cell : List (List CellPair) → Bool
is_one_cell row = list_all (λ part. nat_eq (length part) 1) row && nat_eq (length row) 1

-- a rule with rows of one cell only and without such a word means the same in each direction
abbrev pub is_direction_free : SourceRule → Bool
is_direction_free rule = list_all is_one_cell rule.rows && list_all is_steady (cells_of rule)

-- the directions that are written; all four, where none is
abbrev pub written_directions : List Direction → List Direction
written_directions [] = Up ∷ Down ∷ Left ∷ Right ∷ []
written_directions (first ∷ others) = first ∷ others

-- the directions in which a rule is used; a direction-free one in its first alone
abbrev pub directions_of : SourceRule → List Direction
directions_of rule = let written : List Direction = written_directions rule.directions in
    if is_direction_free rule then take 1 written else written

-- choices -------------------------------------------------------------------------------------------------------------

-- the moves of a word of several, each for the occurrence of that number
abbrev pub moves_for : Direction → ℕ → MovementWord → Option (List (ℕ × Motion))
moves_for direction number word = if is_several word then Some
    (map (λ motion. (number, motion)) (turned direction word)) else None

-- the choices of an item's movement word, if it leaves some
abbrev pub move_choices : Direction → Item → Option (List (ℕ × Motion))
move_choices direction (Is number None meaning) = None
move_choices direction (Is number (Some word) meaning) = moves_for direction number word
move_choices direction (No meaning) = None

-- the choices of an item's property, if it is fixed
abbrev pub member_choices : Names → SourceRule → Item → Option (List (ℕ × ObjectId))
member_choices names rule (Is number word meaning) =
    if is_fixed names rule meaning then Some (map (λ object. (number, object)) (members meaning)) else None
member_choices names rule (No meaning) = None

-- the choices of moves of a rule's left side, a list for each occurrence in written order
abbrev pub all_move_choices : SourceRule → Direction → List (List (ℕ × Motion))
all_move_choices rule direction = filter_map (move_choices direction) (left_items rule)

-- the choices of members of a rule's left side, a list for each occurrence in written order
abbrev pub all_member_choices : Names → SourceRule → List (List (ℕ × ObjectId))
all_member_choices names rule = filter_map (member_choices names rule) (left_items rule)

-- readings ------------------------------------------------------------------------------------------------------------

-- the readings in one direction
abbrev pub readings_in : List (List (ℕ × ObjectId)) → SourceRule → Direction → List Reading
readings_in members_chosen rule direction =
    flat_map (λ moves. map (λ members. record { direction = direction; moves = moves; members = members })
    members_chosen) (one_of_each (all_move_choices rule direction))

-- the readings of a rule in their order, impossible ones among them
abbrev pub readings : Names → SourceRule → List Reading
readings names rule = flat_map (readings_in (one_of_each (all_member_choices names rule)) rule) (directions_of rule)

-- the product of the lengths of lists
abbrev pub ways : {A : Type 0} → List (List A) → ℕ
ways [] = 1
ways (items ∷ others) = length items * ways others

-- how many readings a rule has, impossible ones among them
abbrev pub reading_count : Names → SourceRule → ℕ
reading_count names rule = fold (λ sum direction.
    sum + ways (all_move_choices rule direction) * ways (all_member_choices names rule)) 0 (directions_of rule)
