-- In how many ways a rule's items can be read in one direction: the product of the moves that each item's word leaves
-- and of the members of each fixed property.
use Rattle.std.specs.Prelude.{ℕ, ◌*◌, if◌then◌else◌, Some, None, List, [], ◌∷◌, length}
use Rattle.ps_model.specs.declared.pieces.Direction.TheVariants.{Up}
use Rattle.ps_model.specs.meaning.Directions.{turned, is_several}
use Rattle.ps_model.specs.names.Names.{Meaning, Names, members}
use Rattle.ps_model.specs.rules.SourceRules.{Item, Is, No, SourceRule}
use Rattle.ps_model.specs.meaning.Occurrences.{is_fixed}

-- how many moves an item leaves the choice of: as many in each direction as in the first; one, where it leaves none
abbrev pub move_ways : Item → ℕ
move_ways (Is number None meaning) = 1
move_ways (Is number (Some word) meaning) = if is_several word then length (turned Up word) else 1
move_ways (No meaning) = 1

-- how many members a name is split into
abbrev pub meaning_ways : Names → SourceRule → Meaning → ℕ
meaning_ways names rule meaning = if is_fixed names rule meaning then length (members meaning) else 1

-- how many members an item is split into
abbrev pub member_ways : Names → SourceRule → Item → ℕ
member_ways names rule (Is number word meaning) = meaning_ways names rule meaning
member_ways names rule (No meaning) = 1

-- in how many ways items can be read
abbrev pub item_ways : Names → SourceRule → List Item → ℕ
item_ways names rule [] = 1
item_ways names rule (item ∷ items) = move_ways item * member_ways names rule item * item_ways names rule items
