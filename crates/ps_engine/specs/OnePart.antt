-- Rules of one row of one part.
use Rattle.std.specs.Prelude.{◌≡◌, ℕ, Bool, Option, Some, List, [], ◌∷◌, map, slice_get}
use Rattle.ps_model.specs.board.Grid.{Grid}
use Rattle.ps_program.specs.declared.cells.CompiledCell.{CompiledCell}
use Rattle.ps_program.specs.declared.rows.Axis.{Axis}
use Rattle.ps_program.specs.declared.rows.CompiledRow.{CompiledRow}
use Rattle.ps_places.specs.PartStarts.{AreStarts}
use Rattle.ps_places.specs.Scratch.{Scratch}

-- the parts of rows, and those of the rows of such a rule
abbrev pub rows_parts : List CompiledRow → List (List (List CompiledCell))
rows_parts rows = map (λ row. row.parts) rows

abbrev pub one_part : List CompiledCell → List (List (List CompiledCell))
one_part part = (part ∷ []) ∷ []

-- the first room keeps where the part begins on a grid, on these rows of it
abbrev pub FirstKeeps : Grid → Option (List ℕ) → Axis → List CompiledCell → List Bool → List Scratch → Type 0
FirstKeeps g table axis part rows scratch = (row_scratch : Scratch) → slice_get scratch 0 ≡ Some row_scratch →
    AreStarts g table axis part rows row_scratch.starts.items
