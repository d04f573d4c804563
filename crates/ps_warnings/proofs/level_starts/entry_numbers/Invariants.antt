use Rattle.std.proofs.Common.{◌≡◌, ◌++◌, false}
use Rattle.ps_model.specs.text.LineNumbers.{lines_between}
use Rattle.ps_warnings.specs.LevelStarts.{numbers_at}
use Rattle.ps_warnings.proofs.level_starts.entry_numbers.Given as goal

-- what is left comes to the whole
abbrev pub invariant-loop-line : goal.invariant-loop-line
invariant-loop-line l = l.numbers.items ++ numbers_at l.is_below_row (lines_between l.source l.line l.fn.lines.end)
    ≡ numbers_at false (lines_between l.source l.fn.lines.start l.fn.lines.end)
