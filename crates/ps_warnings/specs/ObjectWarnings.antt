-- Objects that nothing uses: no cell of a level has one, and the game doesn't speak of it. A game speaks of an object by
-- its own name, or by that of a property or an aggregate. Its line of COLLISIONLAYERS doesn't count, and neither does a
-- line of LEGEND that names it. Each is told once, at the line that declares its first name.
use Rattle.std.specs.Prelude.{ℕ, Bool, if◌then◌else◌, Option, Some, None, List, [], ◌∷◌, ◌++◌, map}
use Rattle.std.specs.List.{flat_map}
use Rattle.ps_model.specs.declared.pieces.ObjectId.{ObjectId}
use Rattle.ps_model.specs.text.Lines.{Line}
use Rattle.ps_model.specs.names.Names.{Meaning, One, AllOf, AnyOf, Names, meaning_of, members}
use Rattle.ps_model.specs.session.LevelLines.{Entry, MessageEntry, LevelEntry}
use Rattle.ps_facts.specs.Declarations.{Declared, legend_names, object_names}
use Rattle.ps_warnings.specs.declared.kinds.Warning.{Warning}
use Rattle.ps_warnings.specs.declared.kinds.WarningKind.TheVariants.{UnusedObject}
use Rattle.ps_warnings.specs.Marks.{is_marked, is_one_of, marked}

-- the numbers of objects
abbrev pub numbers : List ObjectId → List ℕ
numbers objects = map (λ object. object.0) objects

-- the objects of meanings
abbrev pub objects_meant : List Meaning → List ℕ
objects_meant meanings = flat_map (λ meaning. numbers (members meaning)) meanings

-- the objects of an entry's cells
abbrev pub objects_in_entry : Entry → List ℕ
objects_in_entry (MessageEntry text) = []
objects_in_entry (LevelEntry level) = flat_map numbers level.cells

abbrev pub objects_in_entries : List Entry → List ℕ
objects_in_entries entries = flat_map objects_in_entry entries

-- the objects that are used, where a game speaks of this and has these entries
abbrev pub used_objects : List Meaning → List Entry → List ℕ
used_objects spoken entries = objects_meant spoken ++ objects_in_entries entries

-- the object of a meaning, if that is one object alone
abbrev pub object_meant : Option Meaning → Option ℕ
object_meant None = None
object_meant (Some (One object)) = Some object.0
object_meant (Some (AllOf line objects)) = None
object_meant (Some (AnyOf line objects)) = None

-- an object that a line names, unless it is used
abbrev pub warned_of_object : Bool → ℕ → List Warning
warned_of_object used line = if used then [] else record { line = line; kind = UnusedObject } ∷ []

-- the objects that these names stand for, each but for those that are used, and those of names before
abbrev pub warned_of : Names → List ℕ → List Declared → List Warning
warned_of names used [] = []
warned_of names used (named ∷ others) = elim (object_meant (meaning_of names named.name)) [
  | None ↦ warned_of names used others
  | Some object ↦ warned_of_object (is_one_of used object) named.line ++ warned_of names (object ∷ used) others
]

-- the same by marks
abbrev pub warned_by : Names → List Bool → List Declared → List Warning
warned_by names marks [] = []
warned_by names marks (named ∷ others) = elim (object_meant (meaning_of names named.name)) [
  | None ↦ warned_by names marks others
  | Some object ↦
      warned_of_object (is_marked marks object) named.line ++ warned_by names (marked marks (object ∷ [])) others
]

-- all of them, from the lines of a text
abbrev pub object_warnings : Names → List Meaning → List Entry → List Line → List Warning
object_warnings names spoken entries lines =
    warned_of names (used_objects spoken entries) (object_names lines ++ legend_names lines)
