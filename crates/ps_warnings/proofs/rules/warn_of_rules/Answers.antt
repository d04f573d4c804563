use Rattle.std.proofs.Common.{subst}
use Rattle.ps_rules.specs.RulesShown.{line_shown}
use Rattle.ps_laws.specs.WholeRows.{IsWholeLine}
use Rattle.ps_warnings.proofs.WholeLines.{shown_at}
use Rattle.ps_warnings.proofs.rules.warn_of_rules.Goals as goal

pub warn_of_rule-requires : goal.warn_of_rule-requires
warn_of_rule-requires c =
    subst (λ line. IsWholeLine (line_shown line)) c.in-Rule.is
    (shown_at IsWholeLine line_shown c.lines-line-items.result.now c.line-item.result c.loop-line.line-index c.lines-line-items.ensures.whole
    c.loop-line-test.true c.line-item.is)
