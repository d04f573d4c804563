use Rattle.std.proofs.Common.{ℕ, ◌+◌, List, Bool, refl, subst, arith}
use Rattle.ps_engine.specs.TopicsAsked.{HasParts}
use Rattle.ps_engine.proofs.TopicsKept.{before_more, item_told, parts_kept}
use Rattle.ps_engine.proofs.topics_asked.with_rows.Goals as goal

pub loop-row-preserved : goal.loop-row-preserved
loop-row-preserved c =
    let before : List Bool = c.loop-row.topics in
    let after : List Bool = c.with_parts-topics.result in
    let n : ℕ = c.loop-row.row-index in
    let item = c.row-item.result in
    let told = before_more (λ row. HasParts before row.parts) (λ row.
    HasParts after row.parts) c.args.rows.now n (n + 1)
    (λ row. parts_kept before after c.with_parts-topics.ensures.kept row.parts) c.loop-row.invariant.asked refl
    (item_told (λ row. HasParts after row.parts) c.args.rows.now n item c.row-item.is
    (subst (HasParts after) c.as_slice.ensures c.with_parts-topics.ensures.asked)) in
    record {
      kept = λ each low on. c.with_parts-topics.ensures.kept each low (c.loop-row.invariant.kept each low on);
      asked = told;
    }

pub returns-clause-asked : goal.returns-clause-asked
returns-clause-asked c = λ k d low. c.loop-row.invariant.asked k d (omega (arith, low, c.loop-row-test.false)) low
