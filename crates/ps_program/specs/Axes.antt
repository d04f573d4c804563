-- The axes along which the cells of compiled rules lie.
use Rattle.std.specs.Prelude.{◌≡◌}
use Rattle.ps_model.specs.declared.pieces.Direction.{Direction}
use Rattle.ps_model.specs.declared.pieces.Direction.TheVariants as direction
use Rattle.ps_program.specs.declared.rows.Axis.{Axis}
use Rattle.ps_program.specs.declared.rows.Axis.TheVariants.{Down, Right}
use Rattle.ps_program.specs.declared.rows.CompiledRow.{CompiledRow}

-- the direction in which cells along an axis follow each other
abbrev pub direction_of : Axis → Direction
direction_of Down = direction.Down
direction_of Right = direction.Right

-- a row's cells lie along an axis
abbrev pub LiesAlong : Axis → CompiledRow → Type 0
LiesAlong axis row = row.axis ≡ axis
