use Rattle.std.proofs.Common.{◌≡◌, drop}
use Rattle.std.specs.List.{list_all}
use Rattle.ps_program.specs.ProgramShown.{rows_shown}
use Rattle.ps_compile.specs.IdleRules.{leaves_what_fits}
use Rattle.ps_compile.proofs.idle.leaves_all.Given as goal

abbrev pub invariant-loop-row : goal.invariant-loop-row
invariant-loop-row l =
    list_all (list_all (list_all (leaves_what_fits l.names))) (rows_shown (drop l.row-index l.rows))
    ≡ list_all (list_all (list_all (leaves_what_fits l.names))) (rows_shown l.rows)
