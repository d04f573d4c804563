use Rattle.std.proofs.Common.{refl}
use Rattle.std.specs.Prelude.{not}
use Rattle.ps_model.specs.declared.faults.FaultKind.TheVariants.{Impossible}
use Rattle.ps_model.specs.text.Faults.{when}
use Rattle.ps_model.specs.meaning.ReadingMeanings.{has_possible}
use Rattle.ps_model.specs.rules.ReadingFaults.{impossible_rules}
use Rattle.ps_names.proofs.common.Loops.{made-more}
use Rattle.ps_rules.proofs.Loops.{loop-end}
use Rattle.ps_game.proofs.telling_readings.impossible_rules.Goals as goal

pub loop-rule-preserved : goal.loop-rule-preserved
loop-rule-preserved c =
    made-more (impossible_rules c.args.names.now) c.loop-rule.told.items c.tell_rule.new.told.items
    (when (not (has_possible c.args.names.now c.rule-item.result)) Impossible c.rule-item.result.line)
    (impossible_rules c.args.names.now c.args.rules.now) c.args.rules.now c.loop-rule.rule-index c.rule-item.result
    c.rule-item.result c.in_ok-tell_rule.ensures c.loop-rule-test.true c.rule-item.is refl c.loop-rule.invariant

pub returns : goal.returns
returns c =
    loop-end c.loop-rule.told.items (impossible_rules c.args.names.now c.args.rules.now)
    (impossible_rules c.args.names.now) c.args.rules.now c.loop-rule.rule-index refl c.loop-rule.invariant
    c.loop-rule-test.false
