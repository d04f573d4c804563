use Rattle.std.proofs.Common.{arith, sym}
use Rattle.ps_text.proofs.RuleWordSteps.{no_arrow_at_end}
use Rattle.ps_text.proofs.rule_scan.is_arrow_at.Goals as goal

pub returns-clause-arrow : goal.returns-clause-arrow
returns-clause-arrow c = sym (no_arrow_at_end c.args.line.now c.args.at c.requires (omega arith))
