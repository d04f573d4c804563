use Rattle.ps_model.specs.text.LineNumbers.{line_at}
use Rattle.ps_model.specs.rules.RuleTree.{rule_of}
use Rattle.ps_rules.specs.AboveShown.{above_shown}
use Rattle.ps_rules.specs.RulesShown.{rule_shown}
use Rattle.ps_rules.specs.ShapesShown.{shape_shown}
use Rattle.ps_rules.proofs.RuleSteps.{rule-fine}
use Rattle.ps_rules.proofs.rule_faults.read_rule.Goals as goal

pub returns : goal.returns
returns c = (
  c.in_ok-rule.ensures,
  (
    rule-fine (above_shown c.args.above) c.args.line (shape_shown c.args.shape.now) (rule_shown c.in_ok-rule.rule)
        (rule_of (line_at c.args.source.now c.args.line) (shape_shown c.args.shape.now))
        c.in_ok-kind.field-0 c.in_default.is (c.in_ok-kind.ensures c.args.line) c.in_ok-rule.ensures,
    tt,
  ),
)
