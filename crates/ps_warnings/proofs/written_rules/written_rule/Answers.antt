use Rattle.std.proofs.Common.{map}
use Rattle.ps_text.specs.WordViews.{text_of}
use Rattle.ps_warnings.proofs.RulesPassed.{rule_made}
use Rattle.ps_warnings.proofs.written_rules.written_rule.Goals as goal

pub returns : goal.returns
returns c =
    rule_made c.args.source.now c.args.line (map text_of c.in_ok-words.words.items) c.taken_text.result.now c.requires.0
    c.requires.1 c.in_ok-words.ensures.texts c.taken_text.ensures
