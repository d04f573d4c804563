use Rattle.std.proofs.Common.{◌≡◌, drop}
use Rattle.std.specs.List.{list_any}
use Rattle.ps_program.specs.ProgramShown.{parts_shown, row_shown}
use Rattle.ps_compile.specs.IdleRules.{is_void_cell}
use Rattle.ps_compile.proofs.idle.has_void_row.Given as goal

abbrev pub invariant-loop-part : goal.invariant-loop-part
invariant-loop-part l =
    list_any (list_any (is_void_cell l.names)) (parts_shown (drop l.part-index l.part-items))
    ≡ list_any (list_any (is_void_cell l.names)) (row_shown l.row)
