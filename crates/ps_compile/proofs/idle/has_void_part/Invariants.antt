use Rattle.std.proofs.Common.{◌≡◌, drop, map}
use Rattle.std.specs.List.{list_any}
use Rattle.ps_program.specs.ProgramShown.{cell_shown}
use Rattle.ps_compile.specs.IdleRules.{is_void_cell}
use Rattle.ps_compile.proofs.idle.has_void_part.Given as goal

abbrev pub invariant-loop-cell : goal.invariant-loop-cell
invariant-loop-cell l =
    list_any (is_void_cell l.names) (map cell_shown (drop l.cell-index l.part))
    ≡ list_any (is_void_cell l.names) (map cell_shown l.part)
