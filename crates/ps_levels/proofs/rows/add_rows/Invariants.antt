use Rattle.std.proofs.Common.{◌≡◌, ◌++◌, map, length}
use Rattle.ps_model.specs.session.LevelFaults.{rows_faults}
use Rattle.ps_model.specs.session.LevelLines.{row_cells}
use Rattle.ps_model.specs.text.LineNumbers.{lines_between}
use Rattle.ps_levels.specs.Cells.{rows_shown}
use Rattle.ps_levels.proofs.rows.add_rows.Given as goal

abbrev pub invariant-loop-line : goal.invariant-loop-line
invariant-loop-line l =
    record {
      part : rows_shown l.rows.items ++ map (row_cells l.names l.width) (lines_between l.source l.line l.fn.lines.end)
          ≡ rows_shown l.fn.rows.items ++ map (row_cells l.names l.width)
          (lines_between l.source l.fn.lines.start l.fn.lines.end);
      fine :
          rows_faults l.names l.width (length l.rows.items) (lines_between l.source l.line l.fn.lines.end)
          ≡ rows_faults l.names l.width (length l.fn.rows.items)
          (lines_between l.source l.fn.lines.start l.fn.lines.end);
    }
