use Rattle.std.proofs.Common.{rules, ◌≡◌, true, false}
use Rattle.ps_model.specs.text.Lines.{is_blank_line}
use Rattle.ps_model.specs.text.LineNumbers.{line_at}
use Rattle.ps_warnings.specs.RepeatedRules.{twin_of}
use Rattle.ps_warnings.specs.RulesSeen.{rule_seen, rules_seen}
use Rattle.ps_warnings.proofs.RulesPassed.{rule_here}
use Rattle.ps_warnings.proofs.repeated_rules.pass.Goals as goal

pub returns : goal.returns
returns c =
    let text = c.args.source.now in
    let there : (line_at text c.args.line).is_there ≡ true = search rules in
    let blank : is_blank_line (line_at text c.args.line) ≡ false = search rules in
    let twin : c.twin_of.result
    ≡ twin_of (rule_seen c.in_ok-rule.rule) (rules_seen c.args.above.now.items) = search rules in
    rule_here text c.args.line (rules_seen c.args.above.now.items) (rules_seen c.put_below.new.above.items)
    (rule_seen c.in_ok-rule.rule) c.twin_of.result c.args.told.now.items c.warn_of_twin.new.told.items c.requires.0
    c.requires.1 there blank c.in_ok-rule.ensures twin c.in_ok-warn_of_twin.ensures c.in_ok-put_below.ensures
