-- The occurrences of names in a rule's cells, in written order; items with `no` are none. Which occurrence of the left
-- decides one of the right; and which properties a rule keeps loose.
use Rattle.std.specs.Prelude.{ℕ, nat_eq, Bool, true, false, ◌&&◌, ◌||◌, not, Option, Some, None, List, [], ◌∷◌, filter}
use Rattle.std.specs.List.{flat_map, filter_map, list_all, list_any}
use Rattle.ps_model.specs.declared.pieces.ObjectId.{ObjectId}
use Rattle.ps_model.specs.declared.rules.MovementWord.{MovementWord}
use Rattle.ps_model.specs.meaning.Directions.{same_word}
use Rattle.ps_model.specs.names.Names.{Meaning, One, AllOf, AnyOf, Names, layer_of, same_object}
use Rattle.ps_model.specs.rules.SourceRules.{Item, Is, No, CellPair, SourceRule}

-- two names are the same where they stand for the same object, or for one aggregate or property: that of one legend
-- line
abbrev pub same_meaning : Meaning → Meaning → Bool
same_meaning (One first) (One second) = same_object first second
same_meaning (AllOf first _) (AllOf second _) = nat_eq first second
same_meaning (AnyOf first _) (AnyOf second _) = nat_eq first second
same_meaning _ _ = false

-- the item's word is this one
abbrev pub has_movement : MovementWord → Option MovementWord → Bool
has_movement word None = false
has_movement word (Some other) = same_word word other

-- the item is an occurrence of that name
abbrev pub names_it : Meaning → Item → Bool
names_it meaning (Is number word other) = same_meaning meaning other
names_it meaning (No other) = false

-- the item is an occurrence with that movement word
abbrev pub moves_so : MovementWord → Item → Bool
moves_so word (Is number other meaning) = has_movement word other
moves_so word (No meaning) = false

-- the number of an item that is an occurrence
abbrev pub number_of : Item → Option ℕ
number_of (Is number word meaning) = Some number
number_of (No meaning) = None

-- the numbers of the occurrences among items
abbrev pub numbers : List Item → List ℕ
numbers items = filter_map number_of items

-- the cells of a rule in written order
abbrev pub cells_of : SourceRule → List CellPair
cells_of rule = flat_map (λ row. flat_map (λ part. part) row) rule.rows

-- the items of a rule's left side in written order
abbrev pub left_items : SourceRule → List Item
left_items rule = flat_map (λ cell. cell.left) (cells_of rule)

-- the first number of the first list, where it has one; else the only number of the second
abbrev pub here_or_only : List ℕ → List ℕ → Option ℕ
here_or_only (here ∷ others) all = Some here
here_or_only [] [] = None
here_or_only [] (only ∷ []) = Some only
here_or_only [] (first ∷ second ∷ others) = None

-- the left occurrence that decides a property on the right of a cell: the one in the same cell with the same name;
-- without one, the only left occurrence of that property
abbrev pub bound_name : SourceRule → CellPair → Meaning → Option ℕ
bound_name rule cell meaning =
    here_or_only (numbers (filter (names_it meaning) cell.left)) (numbers (filter (names_it meaning) (left_items rule)))

-- the left occurrence that decides a word of several moves before a name on the right of a cell: the one in the same
-- cell with the same word and the same name; without one, the only left occurrence of that word, with whatever name
abbrev pub bound_word : SourceRule → CellPair → MovementWord → Meaning → Option ℕ
bound_word rule cell word meaning =
    here_or_only (numbers (filter (λ item. names_it meaning item && moves_so word item) cell.left))
    (numbers (filter (moves_so word) (left_items rule)))

-- the objects lie on one layer
abbrev pub are_on_one_layer : Names → List ObjectId → Bool
are_on_one_layer names [] = true
are_on_one_layer names (first ∷ others) = list_all (λ object.
    nat_eq (layer_of names object) (layer_of names first)) others

-- each right occurrence of a name stands in a cell where the left has it too
abbrev pub is_on_left_too : SourceRule → Meaning → Bool
is_on_left_too rule meaning = list_all (λ cell.
    not (list_any (names_it meaning) cell.right) || list_any (names_it meaning) cell.left) (cells_of rule)

-- a property is loose in a rule if two things hold: its members lie on one layer, and each of its right occurrences
-- stands in a cell where the left has it too
abbrev pub is_loose : Names → SourceRule → Meaning → Bool
is_loose names rule (One object) = false
is_loose names rule (AllOf line objects) = false
is_loose names rule (AnyOf line objects) = are_on_one_layer names objects && is_on_left_too rule (AnyOf line objects)

-- a property that isn't loose is fixed: each left occurrence is split into its members
abbrev pub is_fixed : Names → SourceRule → Meaning → Bool
is_fixed names rule (One object) = false
is_fixed names rule (AllOf line objects) = false
is_fixed names rule (AnyOf line objects) = not (is_loose names rule (AnyOf line objects))
