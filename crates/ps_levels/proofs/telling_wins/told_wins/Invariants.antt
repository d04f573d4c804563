use Rattle.std.proofs.Common.{◌≡◌, ◌++◌}
use Rattle.ps_model.specs.text.LineNumbers.{lines_between}
use Rattle.ps_levels.specs.ToldWins.{told_wins}
use Rattle.ps_levels.proofs.telling_wins.told_wins.Given as goal

abbrev pub invariant-loop-line : goal.invariant-loop-line
invariant-loop-line l =
    l.told.items ++ told_wins l.names (lines_between l.source l.line l.fn.lines.end) ≡ told_wins l.names
    (lines_between l.source l.fn.lines.start l.fn.lines.end)
