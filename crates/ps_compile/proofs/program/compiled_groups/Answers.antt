use Rattle.std.proofs.Common.{subst}
use Rattle.ps_rules.specs.RulesShown.{line_shown}
use Rattle.ps_laws.specs.WholeRows.{IsWholeLine}
use Rattle.ps_compile.proofs.WholeRows.{shown-at}
use Rattle.ps_compile.proofs.program.compiled_groups.Goals as goal

pub add-requires : goal.add-requires
add-requires c =
    subst (λ line. IsWholeLine (line_shown line)) c.in-Rule.is
    (shown-at IsWholeLine line_shown c.args.lines.now c.line-item.result c.loop-line.line-index c.requires
    c.loop-line-test.true c.line-item.is)
