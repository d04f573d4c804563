-- What can be in one cell at once: a cell has one object at most on each layer.
use Rattle.std.specs.Prelude.{nat_eq, Bool, false, ◌||◌, not, Option, Some, None, List, [], ◌∷◌}
use Rattle.std.specs.List.{list_all, list_any}
use Rattle.ps_model.specs.declared.pieces.ObjectId.{ObjectId}
use Rattle.ps_model.specs.names.Names.{Meaning, One, AllOf, AnyOf, Names, layer_of, same_object}

-- two objects can be in one cell: they are one, or lie on two layers
abbrev pub can_meet : Names → ObjectId → ObjectId → Bool
can_meet names object other = same_object object other || not (nat_eq (layer_of names object) (layer_of names other))

-- an object can be in a cell with each of these
abbrev pub can_meet_each : Names → List ObjectId → ObjectId → Bool
can_meet_each names objects object = list_all (can_meet names object) objects

-- what a name stands for can be in a cell with each of these objects: its object, all objects of an aggregate, some
-- object of a property
abbrev pub can_join : Names → List ObjectId → Meaning → Bool
can_join names objects (One object) = can_meet_each names objects object
can_join names objects (AllOf line members) = list_all (can_meet_each names objects) members
can_join names objects (AnyOf line members) = list_any (can_meet_each names objects) members

-- an object can be in a cell with what a name stands for
abbrev pub can_be_with : Names → Meaning → ObjectId → Bool
can_be_with names meaning object = can_join names (object ∷ []) meaning

-- what two names stand for can be in one cell
abbrev pub can_share : Names → Meaning → Meaning → Bool
can_share names (One object) meaning = can_join names (object ∷ []) meaning
can_share names (AllOf line objects) meaning = can_join names objects meaning
can_share names (AnyOf line objects) meaning = list_any (can_be_with names meaning) objects

-- two names are declared, and what they stand for can't be in one cell
abbrev pub are_apart : Names → Option Meaning → Option Meaning → Bool
are_apart names None place = false
are_apart names (Some subject) None = false
are_apart names (Some subject) (Some place) = not (can_share names subject place)
