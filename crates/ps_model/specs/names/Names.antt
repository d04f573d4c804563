-- Names: what each name of a game stands for, on which layer each object lies, and which characters show what in a
-- level.
use Rattle.std.specs.Prelude.{ℕ, nat_eq, Bool, Option, Some, None, List, [], ◌∷◌, length, slice_index_or, codes}
use Rattle.std.specs.List.{list_any}
use Rattle.std.specs.Str.{bytes_eq}
use Rattle.std.specs.Map.{lookup}
use Rattle.ps_model.specs.declared.pieces.ObjectId.{ObjectId}
use Rattle.ps_model.specs.text.Lines.{folded}

-- a name stands for one object, for all of a list (an aggregate) or for any of a list (a property); the last two keep
-- the number of the legend line that declares them
pub data Meaning : Type 0 where
  One : ObjectId → Meaning
  AllOf : ℕ → List ObjectId → Meaning
  AnyOf : ℕ → List ObjectId → Meaning

-- a character that shows objects in a level and in a frame, as it is written where it is declared
pub record Glyph : Type 0 where
  pub character : ℕ
  pub meaning : Meaning

-- the names of a game
pub record Names : Type 0 where
  -- each name, its letters folded, with its meaning, in order of declaration
  pub entries : List (List ℕ × Meaning)
  -- the layer of each object, by the objects' numbers
  pub layers : List ℕ
  pub layer_count : ℕ
  pub glyphs : List Glyph

-- what a name stands for, if it is declared
abbrev pub meaning_of : Names → List ℕ → Option Meaning
meaning_of names name = lookup (bytes_eq (folded name)) names.entries

-- the layer of an object
abbrev pub layer_of : Names → ObjectId → ℕ
layer_of names object = slice_index_or names.layers object.0 0

-- how many objects there are
abbrev pub object_count : Names → ℕ
object_count names = length names.layers

-- the two are one object
abbrev pub same_object : ObjectId → ObjectId → Bool
same_object first second = nat_eq first.0 second.0

-- the object is one of the list
abbrev pub is_among : List ObjectId → ObjectId → Bool
is_among objects object = list_any (same_object object) objects

-- the objects that a meaning speaks of
abbrev pub members : Meaning → List ObjectId
members (One object) = object ∷ []
members (AllOf line objects) = objects
members (AnyOf line objects) = objects

-- the objects of a meaning that may be absent
abbrev pub members_if : Option Meaning → List ObjectId
members_if None = []
members_if (Some meaning) = members meaning

-- the objects that a name speaks of; of no name, none
abbrev pub members_named : Names → List ℕ → List ObjectId
members_named names name = members_if (meaning_of names name)

-- the objects of Player
abbrev pub players : Names → List ObjectId
players names = members_named names (codes "player")

-- the objects of Background
abbrev pub backgrounds : Names → List ObjectId
backgrounds names = members_named names (codes "background")
