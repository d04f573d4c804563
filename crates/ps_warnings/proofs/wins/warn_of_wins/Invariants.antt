use Rattle.std.proofs.Common.{◌≡◌, ◌++◌}
use Rattle.ps_model.specs.text.LineNumbers.{lines_between}
use Rattle.ps_warnings.specs.WinWarnings.{win_warnings}
use Rattle.ps_warnings.proofs.wins.warn_of_wins.Given as goal

-- what is left comes to the whole
abbrev pub invariant-loop-line : goal.invariant-loop-line
invariant-loop-line l = l.told.items ++ win_warnings l.facts.names.now l.facts.there.now (lines_between l.source l.line l.fn.lines.end)
    ≡ l.initial.told.items ++ win_warnings l.facts.names.now l.facts.there.now (lines_between l.source l.fn.lines.start l.fn.lines.end)
