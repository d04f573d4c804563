-- The objects of a cell are those of its layers.
use Rattle.std.proofs.Common.{◌≡◌, ◌∙◌, List, [], ◌∷◌, Option, None, Some, map, refl, sym, ap}
use Rattle.ps_model.specs.declared.pieces.ObjectId.{ObjectId}
use Rattle.ps_model.specs.declared.pieces.Slot.{Slot}
use Rattle.ps_model.specs.declared.pieces.Slot.TheVariants.{Bare, Holds}
use Rattle.ps_model.specs.board.Grid.{object_in}
use Rattle.ps_model.specs.session.Frames.{objects_in}

-- those of some layers
abbrev objects_of : List (Option ObjectId) → List ObjectId
objects_of [] = []
objects_of (None ∷ layers) = objects_of layers
objects_of (Some object ∷ layers) = object ∷ objects_of layers

objects_of-in : (cell : List Slot) → objects_of (map object_in cell) ≡ objects_in cell
objects_of-in [] = refl
objects_of-in (Bare ∷ cell) = objects_of-in cell
objects_of-in (Holds object motion ∷ cell) = ap (λ (objects : List ObjectId). object ∷ objects) (objects_of-in cell)

-- two cells that have the same object on each layer have the same objects
pub objects_by_layer : (first second : List Slot) → map object_in first ≡ map object_in second →
    objects_in first ≡ objects_in second
objects_by_layer first second same = sym (objects_of-in first) ∙ ap objects_of same ∙ objects_of-in second
