use Rattle.std.proofs.Common.{subst}
use Rattle.ps_rules.specs.RulesShown.{line_shown}
use Rattle.ps_laws.specs.WholeRows.{IsWholeLine}
use Rattle.ps_compile.proofs.WholeRows.{shown-at}
use Rattle.ps_origins.proofs.origins.rule_origins.Goals as goal

pub push_rule-requires : goal.push_rule-requires
push_rule-requires c =
    subst (λ line. IsWholeLine (line_shown line)) c.in-Rule.is
    (shown-at IsWholeLine line_shown c.lines-line-items.result.now c.line-item.result c.loop-line.line-index
    c.lines-line-items.ensures.whole c.loop-line-test.true c.line-item.is)
