use Rattle.std.proofs.Common.{◌≡◌, drop}
use Rattle.ps_why.specs.Lines.{line_end}
use Rattle.ps_why.proofs.lines.line_end.Given as goal

-- no line feed has been passed by
abbrev pub invariant-loop-at : goal.invariant-loop-at
invariant-loop-at l = line_end l.at (drop l.at l.text) ≡ line_end l.from (drop l.from l.text)
