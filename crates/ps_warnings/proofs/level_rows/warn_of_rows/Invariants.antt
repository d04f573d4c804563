use Rattle.std.proofs.Common.{◌≡◌, ◌++◌, None}
use Rattle.ps_model.specs.text.LineNumbers.{lines_between}
use Rattle.ps_warnings.specs.RowWarnings.{told_below}
use Rattle.ps_warnings.proofs.level_rows.warn_of_rows.Given as goal

-- what is left comes to the whole
abbrev pub invariant-loop-line : goal.invariant-loop-line
invariant-loop-line l = l.told.items ++ told_below l.above (lines_between l.source l.line l.fn.lines.end)
    ≡ l.initial.told.items ++ told_below None (lines_between l.source l.fn.lines.start l.fn.lines.end)
