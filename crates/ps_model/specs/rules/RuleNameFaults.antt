-- The faults of a rule that lie in what its cells name: a name twice, `no` before an aggregate, and what is left open
-- on the right.
use Rattle.std.specs.Prelude.{ℕ, nat_eq, Bool, true, false, ◌&&◌, ◌||◌, Option, Some, None, List, [], ◌∷◌, ◌++◌}
use Rattle.std.specs.List.{list_any, flat_map, filter_map}
use Rattle.std.specs.Option.{is_none}
use Rattle.ps_model.specs.declared.pieces.ObjectId.{ObjectId}
use Rattle.ps_model.specs.declared.rules.MovementWord.{MovementWord}
use Rattle.ps_model.specs.names.Names.{Meaning, One, AllOf, AnyOf, same_object}
use Rattle.ps_model.specs.rules.SourceRules.{Item, Is, No, CellPair, SourceRule}
use Rattle.ps_model.specs.meaning.Directions.{is_several}
use Rattle.ps_model.specs.meaning.Occurrences.{bound_name, bound_word, cells_of}

-- RU5 and RU6 ---------------------------------------------------------------------------------------------------------

-- the objects that an item without `no` names, but for those of a property
abbrev pub objects_named : Item → List ObjectId
objects_named (Is number word (One object)) = object ∷ []
objects_named (Is number word (AllOf line objects)) = objects
objects_named (Is number word (AnyOf line objects)) = []
objects_named (No meaning) = []

-- the property that an item without `no` names, by the line that declares it
abbrev pub property_named : Item → Option ℕ
property_named (Is number word (One object)) = None
property_named (Is number word (AllOf line objects)) = None
property_named (Is number word (AnyOf line objects)) = Some line
property_named (No meaning) = None

-- one of a list is the same as a later one
abbrev pub has_twice : {A : Type 0} → (A → A → Bool) → List A → Bool
has_twice same [] = false
has_twice same (first ∷ others) = list_any (same first) others || has_twice same others

-- two items without `no` name one object, or one property
abbrev pub name_twice : List Item → Bool
name_twice items =
    has_twice same_object (flat_map objects_named items) || has_twice nat_eq (filter_map property_named items)

-- RU5: one side of a cell names one object, or one property, twice
abbrev pub has_name_twice : SourceRule → Bool
has_name_twice rule = list_any (λ cell. name_twice cell.left || name_twice cell.right) (cells_of rule)

-- the item is `no` before an aggregate
abbrev pub is_no_before_aggregate : Item → Bool
is_no_before_aggregate (No (AllOf line objects)) = true
is_no_before_aggregate other = false

-- RU6: `no` before an aggregate
abbrev pub puts_no_before_aggregate : SourceRule → Bool
puts_no_before_aggregate rule = list_any (λ cell.
    list_any is_no_before_aggregate (cell.left ++ cell.right)) (cells_of rule)

-- RU7 -----------------------------------------------------------------------------------------------------------------

-- no left occurrence decides this name on the right of a cell, which is a property
abbrev pub is_name_unbound : SourceRule → CellPair → Meaning → Bool
is_name_unbound rule cell (One object) = false
is_name_unbound rule cell (AllOf line objects) = false
is_name_unbound rule cell (AnyOf line objects) = is_none (bound_name rule cell (AnyOf line objects))

-- no left occurrence decides this movement word before a name on the right of a cell, which is a word of several moves
abbrev pub is_word_unbound : SourceRule → CellPair → Option MovementWord → Meaning → Bool
is_word_unbound rule cell None meaning = false
is_word_unbound rule cell (Some word) meaning = is_several word && is_none (bound_word rule cell word meaning)

-- no left occurrence decides an item on the right of a cell, or its movement word
abbrev pub is_unbound : SourceRule → CellPair → Item → Bool
is_unbound rule cell (Is number word meaning) =
    is_name_unbound rule cell meaning || is_word_unbound rule cell word meaning
is_unbound rule cell (No meaning) = false

-- RU7: a property or a word of several moves on the right that no left occurrence decides
abbrev pub has_unbound : SourceRule → Bool
has_unbound rule = list_any (λ cell. list_any (is_unbound rule cell) cell.right) (cells_of rule)
