use Rattle.std.proofs.Common.{ℕ, ◌+◌, List, Bool, refl, subst, arith}
use Rattle.ps_engine.specs.TopicsAsked.{HasRows}
use Rattle.ps_engine.proofs.TopicsKept.{before_more, item_told, rows_kept}
use Rattle.ps_engine.proofs.topics_asked.topics_of_rules.Goals as goal

pub loop-rule-preserved : goal.loop-rule-preserved
loop-rule-preserved c =
    let before : List Bool = c.loop-rule.topics in
    let after : List Bool = c.with_rows-topics.result in
    let n : ℕ = c.loop-rule.rule-index in
    let item = c.rule-item.result in
    let told = before_more (λ rule. HasRows before rule.rows) (λ rule.
    HasRows after rule.rows) c.args.rules.now n (n + 1)
    (λ rule. rows_kept before after c.with_rows-topics.ensures.kept rule.rows) c.loop-rule.invariant refl
    (item_told (λ rule. HasRows after rule.rows) c.args.rules.now n item c.rule-item.is
    (subst (HasRows after) c.as_slice.ensures c.with_rows-topics.ensures.asked)) in
    told

pub returns : goal.returns
returns c = λ k d low. c.loop-rule.invariant k d (omega (arith, low, c.loop-rule-test.false)) low
