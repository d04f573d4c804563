-- Written rules of the code as those of the definitions.
use Rattle.std.specs.Prelude.{List, map}
use Rattle.ps_text.specs.WordViews.{text_of}
use Rattle.ps_warnings.specs.RepeatedRules as model
use Rattle.ps_warnings.specs.declared.written_rules.WrittenRule.{WrittenRule}

abbrev pub rule_seen : WrittenRule → model.WrittenRule
rule_seen rule = record { number = rule.number; words = map text_of rule.words.items; message = rule.message.now }

abbrev pub rules_seen : List WrittenRule → List model.WrittenRule
rules_seen rules = map rule_seen rules
