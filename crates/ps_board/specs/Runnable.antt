-- Compiled programs that a board can run as they are: what a write puts has room.
use Rattle.std.specs.Prelude.{◌≡◌, ℕ, true, Bool, Option, List}
use Rattle.std.specs.List.{list_all}
use Rattle.ps_model.specs.declared.compiled.LayerWrite.{LayerWrite}
use Rattle.ps_model.specs.declared.compiled.ObjectWrite.{ObjectWrite}
use Rattle.ps_model.specs.declared.compiled.ObjectWrite.TheVariants.{Put, Leave, Clear}
use Rattle.ps_model.specs.board.RuleSections.{Group, Loop}
use Rattle.ps_model.specs.meaning.Compiled.{CompiledCell, CompiledRule, CompiledSection}
use Rattle.ps_board.specs.Rooms.{has_room}

-- what is put has room on its layer
abbrev pub object_has_room : Option (List ℕ) → ℕ → ObjectWrite → Bool
object_has_room table layer (Put object) = has_room table object layer
object_has_room table layer Leave = true
object_has_room table layer Clear = true

abbrev pub has_room_for : Option (List ℕ) → LayerWrite → Bool
has_room_for table write = object_has_room table (write.layer).0 write.object

-- all that a cell of a rule puts has room
abbrev pub cell_has_room : Option (List ℕ) → CompiledCell → Bool
cell_has_room table cell = list_all (has_room_for table) cell.write.layers

-- all that the cells of a row put has room
abbrev pub row_runs : Option (List ℕ) → List (List CompiledCell) → Bool
row_runs table row = list_all (list_all (cell_has_room table)) row

abbrev pub rule_runs : Option (List ℕ) → CompiledRule → Bool
rule_runs table rule = list_all (row_runs table) rule.rows

abbrev pub section_runs : Option (List ℕ) → CompiledSection → Bool
section_runs table (Group rules) = list_all (rule_runs table) rules
section_runs table (Loop body) = list_all (list_all (rule_runs table)) body

-- a program that a board can run as it is
abbrev pub IsRunnable : Option (List ℕ) → List CompiledSection → Type 0
IsRunnable table sections = list_all (section_runs table) sections ≡ true
