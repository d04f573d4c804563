use Rattle.std.proofs.Common.{◌≡◌, drop}
use Rattle.ps_why.specs.Lines.{behind_feeds}
use Rattle.ps_why.proofs.lines.behind_feeds.Given as goal

-- as many line feeds as are left lie ahead
abbrev pub invariant-loop-at : goal.invariant-loop-at
invariant-loop-at l = behind_feeds l.at l.left (drop l.at l.text) ≡ behind_feeds 0 l.feeds l.text
