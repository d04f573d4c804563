-- What a compiled rule asks of a board: where one of the objects that it needs, or of the motions that it asks for, is
-- nowhere, one of the rule's cells fits nowhere.
use Rattle.std.specs.Prelude.{List}
use Rattle.std.specs.List.{flat_map}
use Rattle.ps_model.specs.declared.compiled.LayeredObject.{LayeredObject}
use Rattle.ps_model.specs.declared.compiled.MotionTest.{MotionTest}
use Rattle.ps_program.specs.declared.cells.CompiledCell.{CompiledCell}
use Rattle.ps_program.specs.declared.rows.CompiledRow.{CompiledRow}

-- what the cells of a part ask for, one after the other
abbrev pub asked_by_part : {X : Type 0} → (CompiledCell → List X) → List CompiledCell → List X
asked_by_part asked part = flat_map asked part

-- those of a row
abbrev pub asked_by_row : {X : Type 0} → (CompiledCell → List X) → CompiledRow → List X
asked_by_row asked row = flat_map (asked_by_part asked) row.parts

-- those of all rows
abbrev pub asked_by_rows : {X : Type 0} → (CompiledCell → List X) → List CompiledRow → List X
asked_by_rows asked rows = flat_map (asked_by_row asked) rows

-- the objects that the mask of a cell needs, and those of all rows
abbrev pub cell_needs : CompiledCell → List LayeredObject
cell_needs cell = cell.mask.needed

abbrev pub rows_need : List CompiledRow → List LayeredObject
rows_need rows = asked_by_rows cell_needs rows

-- the motions that it asks for, rest among them, and those of all rows
abbrev pub cell_moves : CompiledCell → List MotionTest
cell_moves cell = cell.mask.motions

abbrev pub rows_move : List CompiledRow → List MotionTest
rows_move rows = asked_by_rows cell_moves rows
