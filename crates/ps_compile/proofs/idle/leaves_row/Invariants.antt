use Rattle.std.proofs.Common.{◌≡◌, drop}
use Rattle.std.specs.List.{list_all}
use Rattle.ps_program.specs.ProgramShown.{parts_shown, row_shown}
use Rattle.ps_compile.specs.IdleRules.{leaves_what_fits}
use Rattle.ps_compile.proofs.idle.leaves_row.Given as goal

abbrev pub invariant-loop-part : goal.invariant-loop-part
invariant-loop-part l =
    list_all (list_all (leaves_what_fits l.names)) (parts_shown (drop l.part-index l.part-items))
    ≡ list_all (list_all (leaves_what_fits l.names)) (row_shown l.row)
