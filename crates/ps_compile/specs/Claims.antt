-- Objects that a mask names for a layer, which alone need be tried there; and layers that a mask or a write names, which
-- alone need be tried.
use Rattle.std.specs.Prelude.{ℕ, nat_eq, nat_lt, Bool, true, false, ◌&&◌, ◌||◌, not, List, [], ◌∷◌}
use Rattle.std.specs.List.{list_any}
use Rattle.ps_model.specs.declared.compiled.LayeredObject.{LayeredObject}
use Rattle.ps_model.specs.declared.compiled.LayerWrite.{LayerWrite}
use Rattle.ps_model.specs.declared.compiled.MotionTest.{MotionTest}
use Rattle.ps_model.specs.names.Names.{Names, layer_of, object_count}
use Rattle.ps_model.specs.meaning.Compiled.{CellWrite, CompiledCell}
use Rattle.ps_compile.specs.LayerValues.{lies_on, object_passes, some_value}

-- an object that the mask names for the layer is one of it in the game, and passes with some motion
abbrev pub is_claim_passing : Names → CompiledCell → Bool → ℕ → LayeredObject → Bool
is_claim_passing names cell changed layer each =
    lies_on layer each && (nat_lt (each.object).0 (object_count names)
    && (nat_eq (layer_of names each.object) layer && object_passes cell changed layer each.object))

-- the write of a layer
abbrev pub is_of : ℕ → LayerWrite → Bool
is_of layer each = nat_eq (each.layer).0 layer

-- a layer is asked for a motion
abbrev pub asks_of : ℕ → MotionTest → Bool
asks_of layer test = nat_eq (test.layer).0 layer

-- a write has something for a layer
abbrev pub touches : CellWrite → ℕ → Bool
touches write layer = list_any (lies_on layer) write.gone || list_any (is_of layer) write.layers

-- layers that a mask names --------------------------------------------------------------------------------------------

-- no value of a layer of the game fits
abbrev pub fails_on : Names → CompiledCell → ℕ → Bool
fails_on names cell layer = nat_lt layer names.layer_count && not (some_value names cell false layer)

-- none of the layer of an object that is needed
abbrev pub object_fails : Names → CompiledCell → LayeredObject → Bool
object_fails names cell each = fails_on names cell (each.layer).0

-- none of the layer of the first object of a list of which one is needed; an empty list has none at all
abbrev pub list_fails : Names → CompiledCell → List LayeredObject → Bool
list_fails names cell [] = nat_lt 0 names.layer_count
list_fails names cell (first ∷ rest) = object_fails names cell first

-- none of the layer that is asked for a motion, where no object of it is needed
abbrev pub test_fails : Names → CompiledCell → MotionTest → Bool
test_fails names cell test =
    not (list_any (lies_on (test.layer).0) cell.mask.needed) && fails_on names cell (test.layer).0

-- none of some layer that the mask names
abbrev pub fails_where_named : Names → CompiledCell → Bool
fails_where_named names cell =
    list_any (object_fails names cell) cell.mask.needed
    || (list_any (list_fails names cell) cell.mask.one_of || list_any (test_fails names cell) cell.mask.motions)

-- layers that a write names -------------------------------------------------------------------------------------------

-- some value of a layer of the game fits and is changed
abbrev pub changes_on : Names → CompiledCell → ℕ → Bool
changes_on names cell layer = nat_lt layer names.layer_count && some_value names cell true layer

abbrev pub gone_changes : Names → CompiledCell → LayeredObject → Bool
gone_changes names cell each = changes_on names cell (each.layer).0

abbrev pub write_changes : Names → CompiledCell → LayerWrite → Bool
write_changes names cell each = changes_on names cell (each.layer).0

-- so of some layer that the write names
abbrev pub changes_where_named : Names → CompiledCell → Bool
changes_where_named names cell =
    list_any (write_changes names cell) cell.write.layers || list_any (gone_changes names cell) cell.write.gone
