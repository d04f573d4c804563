-- Ways of parts on a line at which each part fits.
use Rattle.std.specs.Prelude.{ℕ, Bool, true, false, ◌&&◌, Option, List, [], ◌∷◌}
use Rattle.ps_model.specs.board.Grid.{Grid}
use Rattle.ps_program.specs.declared.cells.CompiledCell.{CompiledCell}
use Rattle.ps_program.specs.declared.rows.Axis.{Axis}
use Rattle.ps_places.specs.Lines.{part_fits}

-- each part fits at its position; there are as many positions as parts
abbrev pub way_fits : Grid → Option (List ℕ) → Axis → ℕ → List (List CompiledCell) → List ℕ → Bool
way_fits g table axis line [] [] = true
way_fits g table axis line [] (position ∷ way) = false
way_fits g table axis line (part ∷ parts) [] = false
way_fits g table axis line (part ∷ parts) (position ∷ way) =
    part_fits g table axis line part position && way_fits g table axis line parts way
