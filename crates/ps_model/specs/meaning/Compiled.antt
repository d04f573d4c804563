-- Compiled rules, as data: for each cell a mask, which tells the cells of the board that it fits, and a write, which
-- tells what it makes of them. A mask and a write mean the same two facts that a reading of a source rule means. So
-- places, attempts, rounds and programs are the same words for both.
use Rattle.std.specs.Prelude.{ℕ, suc, nat_eq, Bool, false, ◌&&◌, not, Option, Some, None, List, [], ◌∷◌, map, find}
use Rattle.std.specs.Prelude.{slice_index_or, unwrap_or, if◌then◌else◌}
use Rattle.std.specs.List.{list_all, list_any}
use Rattle.ps_model.specs.declared.pieces.ObjectId.{ObjectId}
use Rattle.ps_model.specs.declared.pieces.Direction.{Direction}
use Rattle.ps_model.specs.declared.pieces.Motion.{Motion}
use Rattle.ps_model.specs.declared.pieces.Slot.{Slot}
use Rattle.ps_model.specs.declared.compiled.LayeredObject.{LayeredObject}
use Rattle.ps_model.specs.declared.compiled.MotionTest.{MotionTest}
use Rattle.ps_model.specs.declared.compiled.ObjectWrite.{ObjectWrite}
use Rattle.ps_model.specs.declared.compiled.ObjectWrite.TheVariants.{Put, Leave, Clear}
use Rattle.ps_model.specs.declared.compiled.LayerWrite.{LayerWrite}
use Rattle.ps_model.specs.declared.pieces.Slot.TheVariants.{Bare, Holds}
use Rattle.ps_model.specs.board.Grid.{object_in, motion_in, slot_of}
use Rattle.ps_model.specs.names.Names.{same_object}
use Rattle.ps_model.specs.rules.SourceRules.{Commands}
use Rattle.ps_model.specs.meaning.Fitting.{same_motion}
use Rattle.ps_model.specs.meaning.RuleMeanings.{CellMeaning, RuleMeaning}
use Rattle.ps_model.specs.board.RuleSections.{SectionOf, section_by}
use Rattle.ps_model.specs.board.Programs.{Section}

-- masks ---------------------------------------------------------------------------------------------------------------

-- what a cell must have to fit: each needed object, no barred one, one of each list, and each layer's motion
pub record CellMask : Type 0 where
  pub needed : List LayeredObject
  pub barred : List LayeredObject
  pub one_of : List (List LayeredObject)
  pub motions : List MotionTest

-- the slot holds that object
abbrev pub slot_holds : ObjectId → Slot → Bool
slot_holds object Bare = false
slot_holds object (Holds held motion) = same_object object held

-- the object stands on its layer of the cell
abbrev pub is_held_in : List Slot → LayeredObject → Bool
is_held_in cell sought = slot_holds sought.object (slice_index_or cell (sought.layer).0 Bare)

-- the layer has the motion that is asked for
abbrev pub moves_as_asked : List Slot → MotionTest → Bool
moves_as_asked cell test = same_motion test.motion (motion_in (slice_index_or cell (test.layer).0 Bare))

-- the cell fits the mask
abbrev pub mask_fits : CellMask → List Slot → Bool
mask_fits mask cell =
    list_all (is_held_in cell) mask.needed
    && (not (list_any (is_held_in cell) mask.barred)
    && (list_all (λ objects. list_any (is_held_in cell) objects) mask.one_of && list_all (moves_as_asked cell)
    mask.motions))

-- writes --------------------------------------------------------------------------------------------------------------

-- what becomes of a cell: first these objects go from their layers, and then these layers are written
pub record CellWrite : Type 0 where
  pub gone : List LayeredObject
  pub layers : List LayerWrite

-- one of the objects is that one, on that layer
abbrev pub is_gone : List LayeredObject → ℕ → ObjectId → Bool
is_gone gone layer object = list_any (λ each. nat_eq (each.layer).0 layer && same_object each.object object) gone

-- the slot of a layer without its object, if that goes
abbrev pub slot_freed : List LayeredObject → ℕ → Slot → Slot
slot_freed gone layer Bare = Bare
slot_freed gone layer (Holds object motion) = if is_gone gone layer object then Bare else Holds object motion

-- a slot written
abbrev pub object_written : ObjectWrite → Option Motion → Slot → Slot
object_written (Put object) motion slot = Holds object (unwrap_or motion (motion_in slot))
object_written Leave motion slot = slot_of (object_in slot) (unwrap_or motion (motion_in slot))
object_written Clear motion slot = Bare

-- a slot written by its layer's write, if there is one
abbrev pub slot_written : Option LayerWrite → Slot → Slot
slot_written None slot = slot
slot_written (Some write) slot = object_written write.object write.motion slot

-- the write of a layer
abbrev pub write_on : ℕ → List LayerWrite → Option LayerWrite
write_on layer writes = find (λ write. nat_eq (write.layer).0 layer) writes

-- the slots of a cell written, from a layer on
abbrev pub written_from : CellWrite → ℕ → List Slot → List Slot
written_from write layer [] = []
written_from write layer (slot ∷ slots) =
    slot_written (write_on layer write.layers) (slot_freed write.gone layer slot) ∷ written_from write (suc layer) slots

-- a cell written
abbrev pub cell_written : CellWrite → List Slot → List Slot
cell_written write cell = written_from write 0 cell

-- rules and programs --------------------------------------------------------------------------------------------------

-- a cell of a compiled rule
pub record CompiledCell : Type 0 where
  pub mask : CellMask
  pub write : CellWrite

-- a compiled rule
pub record CompiledRule : Type 0 where
  pub direction : Direction
  -- its rows; a row is a list of parts, parted by its ellipses, and a part is a list of cells
  pub rows : List (List (List CompiledCell))
  pub rewrites : Bool
  pub commands : Commands

-- a section of a compiled program
abbrev pub CompiledSection : Type 0
CompiledSection = SectionOf CompiledRule

-- the meaning of a compiled cell
abbrev pub meaning_of_cell : CompiledCell → CellMeaning
meaning_of_cell cell = record { fits = mask_fits cell.mask; rewritten = cell_written cell.write }

-- the meaning of a compiled rule
abbrev pub meaning_of_rule : CompiledRule → RuleMeaning
meaning_of_rule rule = record {
  direction = rule.direction;
  rows = map (map (map meaning_of_cell)) rule.rows;
  rewrites = rule.rewrites;
  commands = rule.commands;
}

-- the meaning of a section
abbrev pub meaning_of_section : CompiledSection → Section
meaning_of_section section = section_by (map meaning_of_rule) section

-- the meaning of a compiled program
abbrev pub meaning_of_program : List CompiledSection → List Section
meaning_of_program sections = map meaning_of_section sections
