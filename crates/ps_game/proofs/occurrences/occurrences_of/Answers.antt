use Rattle.std.proofs.Common.{◌+◌, List, refl, drop}
use Rattle.std.specs.List.{filter_map}
use Rattle.std.specs.Option.{option_to_list}
use Rattle.ps_model.specs.board.RulePrograms.{rule_in}
use Rattle.ps_rules.specs.declared.tree.RuleLine.{RuleLine}
use Rattle.ps_rules.specs.RulesShown.{line_shown, lines_shown}
use Rattle.ps_names.proofs.common.Loops.{made-more, option-first}
use Rattle.ps_rules.proofs.Loops.{loop-end}
use Rattle.ps_game.proofs.occurrences.occurrences_of.Goals as goal

pub loop-line-preserved : goal.loop-line-preserved
loop-line-preserved c =
    made-more (λ (lines : List RuleLine). filter_map rule_in (lines_shown lines)) c.loop-line.rules.items
    c.push_rule.new.rules.items (option_to_list (rule_in (line_shown c.line-item.result)))
    (filter_map rule_in (lines_shown c.args.lines.now)) c.args.lines.now c.loop-line.line-index c.line-item.result
    c.line-item.result c.in_ok-push_rule.ensures c.loop-line-test.true c.line-item.is
    (option-first (rule_in (line_shown c.line-item.result))
    (filter_map rule_in (lines_shown (drop (c.loop-line.line-index + 1) c.args.lines.now)))) c.loop-line.invariant

pub returns : goal.returns
returns c =
    loop-end c.loop-line.rules.items (filter_map rule_in (lines_shown c.args.lines.now))
    (λ (lines : List RuleLine). filter_map rule_in (lines_shown lines)) c.args.lines.now c.loop-line.line-index refl
    c.loop-line.invariant c.loop-line-test.false
