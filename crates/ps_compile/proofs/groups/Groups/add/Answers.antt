use Rattle.ps_model.specs.board.RulePrograms.{groups_of}
use Rattle.ps_rules.specs.RulesShown.{rule_shown}
use Rattle.ps_compile.proofs.MadePieces.{added}
use Rattle.ps_compile.proofs.groups.Groups.add.Goals as goal

pub returns : goal.returns
returns c rules =
    added c.args.names.now (rule_shown c.args.rule.now) _ _ _ _ _ _ (groups_of rules)
    c.in_ok-close_unless.ensures.closed c.in_ok-close_unless.ensures.opened c.taken-rules.ensures.rules
    c.in_ok-push_rules.ensures
