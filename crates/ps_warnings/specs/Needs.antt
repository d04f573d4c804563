-- What a rule needs so that it can ever apply: each name on its left stands for objects that may come to be. And names
-- of which that isn't so.
use Rattle.std.specs.Prelude.{ℕ, Bool, true, false, not, Option, Some, None, List}
use Rattle.std.specs.List.{list_all, list_any}
use Rattle.ps_model.specs.declared.pieces.ObjectId.{ObjectId}
use Rattle.ps_model.specs.names.Names.{Meaning, One, AllOf, AnyOf, Names, meaning_of}
use Rattle.ps_model.specs.rules.SourceRules.{Item, Is, No, CellPair, SourceRule}
use Rattle.ps_warnings.specs.Marks.{is_marked}

-- the object may come to be: it has a mark
abbrev pub may_be : List Bool → ObjectId → Bool
may_be there object = is_marked there object.0

-- what a name stands for may come to be: its object, all objects of an aggregate, some object of a property
abbrev pub may_stand : List Bool → Meaning → Bool
may_stand there (One object) = may_be there object
may_stand there (AllOf line objects) = list_all (may_be there) objects
may_stand there (AnyOf line objects) = list_any (may_be there) objects

-- what an item of a left side asks for may come to be; `no` asks for nothing
abbrev pub may_be_met : List Bool → Item → Bool
may_be_met there (Is number word meaning) = may_stand there meaning
may_be_met there (No meaning) = true

-- what a cell asks for, the cells of a part, and the parts of a row
abbrev pub may_fit_cell : List Bool → CellPair → Bool
may_fit_cell there cell = list_all (may_be_met there) cell.left

abbrev pub may_fit_part : List Bool → List CellPair → Bool
may_fit_part there cells = list_all (may_fit_cell there) cells

abbrev pub may_fit_row : List Bool → List (List CellPair) → Bool
may_fit_row there parts = list_all (may_fit_part there) parts

-- the rule needs what can't come to be
abbrev pub lacks_something : List Bool → SourceRule → Bool
lacks_something there rule = not (list_all (may_fit_row there) rule.rows)

-- a name is declared, and what it stands for can't come to be
abbrev pub never_stands : List Bool → Option Meaning → Bool
never_stands there None = false
never_stands there (Some meaning) = not (may_stand there meaning)

abbrev pub never_is : Names → List Bool → List ℕ → Bool
never_is names there word = never_stands there (meaning_of names word)
