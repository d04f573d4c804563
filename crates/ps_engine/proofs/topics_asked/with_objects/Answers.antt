use Rattle.std.proofs.Common.{ℕ, ◌+◌, List, Bool, refl, arith, ◌≡◌, ◌∙◌, true, ap, subst}
use Rattle.std.proofs.lemmas.List.{get_or_default}
use Rattle.ps_model.specs.declared.compiled.LayeredObject.{LayeredObject}
use Rattle.ps_board.specs.ColumnSets.{column_at}
use Rattle.ps_match.specs.Topics.{object_topic}
use Rattle.ps_engine.specs.TopicsAsked.{HasObject}
use Rattle.ps_engine.proofs.TopicsKept.{before_more, object_kept}
use Rattle.ps_engine.proofs.topics_asked.with_objects.Goals as goal

pub loop-each-init : goal.loop-each-init
loop-each-init c = record { kept = λ each low on. on; asked = λ i d low. absurd (omega (arith, low)) }

pub loop-each-preserved : goal.loop-each-preserved
loop-each-preserved c =
    let before : List Bool = c.loop-each.topics in
    let after : List Bool = c.with_topic-topics.result in
    let n : ℕ = c.loop-each.each-index in
    record {
      kept = λ each low on. c.with_topic-topics.ensures.kept each low (c.loop-each.invariant.kept each low on);
      asked = before_more (HasObject before) (HasObject after) c.args.objects.now n (n + 1)
          (object_kept before after c.with_topic-topics.ensures.kept) c.loop-each.invariant.asked refl
          (λ d low. subst (λ (k : ℕ). column_at after k ≡ true)
          (c.object_topic.ensures.topic
          ∙ ap (λ (x : LayeredObject). object_topic (x.object).0) (get_or_default c.args.objects.now n _ d low))
          (c.with_topic-topics.ensures.here refl));
    }

pub returns-clause-kept : goal.returns-clause-kept
returns-clause-kept c = c.loop-each.invariant.kept

pub returns-clause-asked : goal.returns-clause-asked
returns-clause-asked c = λ k d low. c.loop-each.invariant.asked k d (omega (arith, low, c.loop-each-test.false)) low
