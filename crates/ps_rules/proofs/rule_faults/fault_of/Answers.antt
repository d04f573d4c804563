use Rattle.std.proofs.Common.{rules}
use Rattle.ps_rules.specs.AboveShown.{above_shown}
use Rattle.ps_rules.specs.RulesShown.{rule_shown}
use Rattle.ps_rules.specs.ShapesShown.{shape_shown}
use Rattle.ps_rules.proofs.RuleSteps.{told-in-shape, told-in-names, told-last}
use Rattle.ps_rules.proofs.rule_faults.fault_of.Goals as goal

pub returns-then-is_some : goal.returns-then-is_some
returns-then-is_some c = λ line.
    told-in-shape (above_shown c.args.above) line (shape_shown c.args.shape.now) (rule_shown c.args.rule.now)
    c.shape_fault-in_shape.result (search rules) (c.shape_fault-in_shape.ensures line)

pub returns-then-is_some-2 : goal.returns-then-is_some-2
returns-then-is_some-2 c = λ line.
    told-in-names (above_shown c.args.above) line (shape_shown c.args.shape.now) (rule_shown c.args.rule.now)
    c.shape_fault-in_shape.result c.in_ok-in_names.in_names (search rules) (search rules)
    (c.shape_fault-in_shape.ensures line) (c.in_ok-in_names.ensures line)

pub returns : goal.returns
returns c = λ line.
    told-last (above_shown c.args.above) line (shape_shown c.args.shape.now) (rule_shown c.args.rule.now)
    c.shape_fault-in_shape.result c.in_ok-in_names.in_names c.last_fault.result (search rules) (search rules)
    (c.shape_fault-in_shape.ensures line) (c.in_ok-in_names.ensures line) (c.last_fault.ensures line)
