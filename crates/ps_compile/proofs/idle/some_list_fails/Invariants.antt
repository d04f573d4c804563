use Rattle.std.proofs.Common.{◌≡◌, drop}
use Rattle.std.specs.List.{list_any}
use Rattle.ps_program.specs.ProgramShown.{cell_shown}
use Rattle.ps_compile.specs.Claims.{list_fails}
use Rattle.ps_compile.proofs.idle.some_list_fails.Given as goal

abbrev pub invariant-loop-objects : goal.invariant-loop-objects
invariant-loop-objects l =
    list_any (list_fails l.names (cell_shown l.cell)) (drop l.objects-index l.lists)
    ≡ list_any (list_fails l.names (cell_shown l.cell)) l.lists
