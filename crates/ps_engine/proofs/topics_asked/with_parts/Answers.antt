use Rattle.std.proofs.Common.{ℕ, ◌+◌, List, Bool, refl, subst, arith}
use Rattle.ps_engine.specs.TopicsAsked.{HasPart}
use Rattle.ps_engine.proofs.TopicsKept.{before_more, item_told, part_kept}
use Rattle.ps_engine.proofs.topics_asked.with_parts.Goals as goal

pub loop-part-preserved : goal.loop-part-preserved
loop-part-preserved c =
    let before : List Bool = c.loop-part.topics in
    let after : List Bool = c.with_part-topics.result in
    let n : ℕ = c.loop-part.part-index in
    let item = c.part-item.result in
    let told = before_more (HasPart before) (HasPart after) c.args.parts.now n (n + 1)
    (part_kept before after c.with_part-topics.ensures.kept) c.loop-part.invariant.asked refl
    (item_told (HasPart after) c.args.parts.now n item c.part-item.is
    (subst (HasPart after) c.as_slice.ensures c.with_part-topics.ensures.asked)) in
    record {
      kept = λ each low on. c.with_part-topics.ensures.kept each low (c.loop-part.invariant.kept each low on);
      asked = told;
    }

pub returns-clause-asked : goal.returns-clause-asked
returns-clause-asked c = λ k d low. c.loop-part.invariant.asked k d (omega (arith, low, c.loop-part-test.false)) low
