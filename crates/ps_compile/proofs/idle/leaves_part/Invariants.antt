use Rattle.std.proofs.Common.{◌≡◌, drop, map}
use Rattle.std.specs.List.{list_all}
use Rattle.ps_program.specs.ProgramShown.{cell_shown}
use Rattle.ps_compile.specs.IdleRules.{leaves_what_fits}
use Rattle.ps_compile.proofs.idle.leaves_part.Given as goal

abbrev pub invariant-loop-cell : goal.invariant-loop-cell
invariant-loop-cell l =
    list_all (leaves_what_fits l.names) (map cell_shown (drop l.cell-index l.part))
    ≡ list_all (leaves_what_fits l.names) (map cell_shown l.part)
