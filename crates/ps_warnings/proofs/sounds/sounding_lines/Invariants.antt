use Rattle.std.proofs.Common.{◌≡◌, ◌++◌}
use Rattle.ps_model.specs.text.LineNumbers.{lines_between}
use Rattle.ps_warnings.specs.Sounds.{sounding_lines}
use Rattle.ps_warnings.proofs.sounds.sounding_lines.Given as goal

-- what is left comes to the whole
abbrev pub invariant-loop-line : goal.invariant-loop-line
invariant-loop-line l = l.numbers.items ++ sounding_lines (lines_between l.source l.line l.fn.lines.end)
    ≡ sounding_lines (lines_between l.source l.fn.lines.start l.fn.lines.end)
