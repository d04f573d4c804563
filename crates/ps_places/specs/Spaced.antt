-- Ways in which no part begins before the end of the one before it, so that no cell belongs to two parts.
use Rattle.std.specs.Prelude.{ℕ, ◌+◌, ◌≤◌, List, [], ◌∷◌, ⊤}
use Rattle.ps_program.specs.declared.rows.CompiledRow.{CompiledRow}
use Rattle.ps_places.specs.Scratch.{Scratch}
use Rattle.ps_places.specs.RowPlaces.{part_sizes, way_of}

-- the first of parts of these sizes begins at a position or behind it, and each other one at the end of the part before
-- it or behind that
abbrev pub IsSpaced : List ℕ → ℕ → List ℕ → Type 0
IsSpaced [] from way = ⊤
IsSpaced (size ∷ sizes) from [] = ⊤
IsSpaced (size ∷ sizes) from (position ∷ way) = (from ≤ position) × IsSpaced sizes (position + size) way

-- so do the parts of a row at the place that is chosen for it
abbrev pub HasSpacedWay : CompiledRow → Scratch → Type 0
HasSpacedWay row scratch = IsSpaced (part_sizes row.parts) 0 (way_of row scratch)
