use Rattle.std.proofs.Common.{List, arith}
use Rattle.ps_model.specs.text.Lines.{Line}
use Rattle.ps_warnings.specs.RepeatedRules.{WrittenRule, twice_below, written_rules}
use Rattle.ps_warnings.specs.RulesSeen.{rules_seen}
use Rattle.ps_warnings.proofs.LinesPassed.{stepped}
use Rattle.ps_warnings.proofs.RulesPassed.{all_rules_passed}
use Rattle.ps_warnings.proofs.repeated_rules.warn_of_repeated.Goals as goal

pub loop-line-preserved : goal.loop-line-preserved
loop-line-preserved c =
    stepped (λ (above : List WrittenRule) (lines : List Line). twice_below above (written_rules lines))
    c.args.source.now c.loop-line.line c.args.lines.now.end (rules_seen c.loop-line.above.items)
    (rules_seen c.pass.new.above.items) c.loop-line.told.items c.pass.new.told.items _ (omega arith) (omega arith)
    (omega arith) c.in_ok-pass.ensures c.loop-line.invariant

pub returns : goal.returns
returns c =
    all_rules_passed c.args.source.now c.loop-line.line c.args.lines.now.end (rules_seen c.loop-line.above.items)
    c.loop-line.told.items _ (omega arith) c.loop-line.invariant
