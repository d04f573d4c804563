use Rattle.std.proofs.Common.{◌∙◌, sym, drop}
use Rattle.ps_why.proofs.Pages.{none_left}
use Rattle.ps_why.proofs.lines.behind_feeds.Goals as goal

pub returns-then-left-eq0-clause-place : goal.returns-then-left-eq0-clause-place
returns-then-left-eq0-clause-place c =
    sym (none_left c.loop-at.at c.loop-at.left (drop c.loop-at.at c.args.text.now) c.if-left-eq0.true)
    ∙ c.loop-at.invariant
