-- Objects that move and never have room, as they share a layer with Background: each cell of a level has an object on that
-- layer, and a cell has one object at most on each layer. An object of Background itself is let be, and so is one that
-- rules put where it wasn't. Told is the line of COLLISIONLAYERS that is the layer.
use Rattle.std.specs.Prelude.{ℕ, Bool, false, ◌&&◌, ◌||◌, not, if◌then◌else◌, List, [], ◌∷◌, replicate, slice_index_or}
use Rattle.std.specs.List.{list_any}
use Rattle.ps_model.specs.declared.pieces.ObjectId.{ObjectId}
use Rattle.ps_model.specs.text.Lines.{Line}
use Rattle.ps_model.specs.names.Names.{Meaning, Names, backgrounds, is_among, members, object_count, players}
use Rattle.ps_model.specs.rules.SourceRules.{CellPair, RuleLine}
use Rattle.ps_model.specs.board.Levels.{background_layer, is_ground}
use Rattle.ps_warnings.specs.declared.kinds.Warning.{Warning}
use Rattle.ps_warnings.specs.declared.kinds.WarningKind.TheVariants.{NoRoom}
use Rattle.ps_warnings.specs.LayerWarnings.{layer_numbers}
use Rattle.ps_warnings.specs.Marks.{is_marked, marked}
use Rattle.ps_warnings.specs.Moved.{cells_in, moved_by_cells, put_by_cells}
use Rattle.ps_warnings.specs.ObjectWarnings.{objects_meant}

-- the object shares the layer of Background and has no mark
abbrev pub is_stuck : Names → List Bool → ObjectId → Bool
is_stuck names put object =
    is_ground names object && (not (is_among (backgrounds names) object) && not (is_marked put object.0))

-- one of the objects of a meaning is
abbrev pub is_any_stuck : Names → List Bool → Meaning → Bool
is_any_stuck names put meaning = list_any (is_stuck names put) (members meaning)

-- a mark for each object, which those have that cells of rules put where they weren't
abbrev pub put_objects : Names → List CellPair → List Bool
put_objects names cells = marked (replicate (object_count names) false) (objects_meant (put_by_cells cells))

-- where these objects are marked, one of Player is stuck, or one that cells of rules move
abbrev pub are_stuck : Names → List Bool → List CellPair → Bool
are_stuck names put cells =
    list_any (is_stuck names put) (players names) || list_any (is_any_stuck names put) (moved_by_cells cells)

-- an object that moves has no room in a game with these rules
abbrev pub is_crowded : Names → List RuleLine → Bool
is_crowded names rules = are_stuck names (put_objects names (cells_in rules)) (cells_in rules)

-- a line, if it is so
abbrev pub warned_of_ground : Bool → ℕ → List Warning
warned_of_ground crowded line = if crowded then record { line = line; kind = NoRoom } ∷ [] else []

-- that of the layer of Background, where the layers are lines of these numbers
abbrev pub line_of_ground : Names → List ℕ → ℕ
line_of_ground names numbers = slice_index_or numbers (background_layer names) 0

-- those of the lines of COLLISIONLAYERS
abbrev pub ground_warnings : Names → List RuleLine → List Line → List Warning
ground_warnings names rules lines =
    warned_of_ground (is_crowded names rules) (line_of_ground names (layer_numbers lines))
