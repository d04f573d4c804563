use Rattle.std.proofs.Common.{◌≡◌, ◌++◌, drop}
use Rattle.ps_program.specs.Needs.{rows_move, rows_need}
use Rattle.ps_program.proofs.needs.asked_by.Given as goal

abbrev pub invariant-loop-row : goal.invariant-loop-row
invariant-loop-row l =
    record {
      objects : l.objects.items ++ rows_need (drop l.row-index l.rows) ≡ rows_need l.rows;
      motions : l.motions.items ++ rows_move (drop l.row-index l.rows) ≡ rows_move l.rows;
    }
