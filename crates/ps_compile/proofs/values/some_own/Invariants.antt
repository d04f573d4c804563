use Rattle.std.proofs.Common.{◌≡◌, false}
use Rattle.ps_program.specs.ProgramShown.{cell_shown}
use Rattle.ps_compile.specs.LayerValues.{own_passes, some_below}
use Rattle.ps_compile.proofs.values.some_own.Given as goal

abbrev pub invariant-loop-number : goal.invariant-loop-number
invariant-loop-number l = some_below (own_passes l.names (cell_shown l.cell) l.changed l.layer.0) l.number ≡ false
