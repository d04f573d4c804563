use Rattle.std.proofs.Common.{ℕ, ◌+◌, List, Bool, refl, arith, ◌≡◌, ◌∙◌, true, ap, subst}
use Rattle.std.proofs.lemmas.List.{get_or_default}
use Rattle.ps_model.specs.declared.compiled.MotionTest.{MotionTest}
use Rattle.ps_board.specs.ColumnSets.{column_at}
use Rattle.ps_match.specs.Topics.{motion_topic}
use Rattle.ps_engine.specs.TopicsAsked.{HasMotion}
use Rattle.ps_engine.proofs.TopicsKept.{before_more, motion_kept}
use Rattle.ps_engine.proofs.topics_asked.with_motions.Goals as goal

pub loop-test-init : goal.loop-test-init
loop-test-init c = record { kept = λ each low on. on; asked = λ i d low. absurd (omega (arith, low)) }

pub loop-test-preserved : goal.loop-test-preserved
loop-test-preserved c =
    let before : List Bool = c.loop-test.topics in
    let after : List Bool = c.with_topic-topics.result in
    let n : ℕ = c.loop-test.test-index in
    record {
      kept = λ each low on. c.with_topic-topics.ensures.kept each low (c.loop-test.invariant.kept each low on);
      asked = before_more (HasMotion before) (HasMotion after) c.args.tests.now n (n + 1)
          (motion_kept before after c.with_topic-topics.ensures.kept) c.loop-test.invariant.asked refl
          (λ d low. subst (λ (k : ℕ). column_at after k ≡ true)
          (c.motion_topic.ensures.topic
          ∙ ap (λ (x : MotionTest). motion_topic (x.layer).0) (get_or_default c.args.tests.now n _ d low))
          (c.with_topic-topics.ensures.here refl));
    }

pub returns-clause-kept : goal.returns-clause-kept
returns-clause-kept c = c.loop-test.invariant.kept

pub returns-clause-asked : goal.returns-clause-asked
returns-clause-asked c = λ k d low. c.loop-test.invariant.asked k d (omega (arith, low, c.loop-test-test.false)) low
