use Rattle.std.proofs.Common.{◌≡◌, drop}
use Rattle.std.specs.List.{list_any}
use Rattle.ps_program.specs.ProgramShown.{rows_shown}
use Rattle.ps_compile.specs.IdleRules.{is_void_cell}
use Rattle.ps_compile.proofs.idle.has_void_cell.Given as goal

abbrev pub invariant-loop-row : goal.invariant-loop-row
invariant-loop-row l =
    list_any (list_any (list_any (is_void_cell l.names))) (rows_shown (drop l.row-index l.rows))
    ≡ list_any (list_any (list_any (is_void_cell l.names))) (rows_shown l.rows)
