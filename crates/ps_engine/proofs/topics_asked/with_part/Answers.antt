use Rattle.std.proofs.Common.{ℕ, ◌+◌, List, Bool, refl, arith}
use Rattle.ps_engine.specs.TopicsAsked.{HasMask}
use Rattle.ps_engine.proofs.TopicsKept.{before_more, item_told, mask_kept}
use Rattle.ps_engine.proofs.topics_asked.with_part.Goals as goal

pub loop-cell-preserved : goal.loop-cell-preserved
loop-cell-preserved c =
    let before : List Bool = c.loop-cell.topics in
    let after : List Bool = c.with_mask-topics.result in
    let n : ℕ = c.loop-cell.cell-index in
    let item = c.cell-item.result in
    let told = before_more (λ cell. HasMask before cell.mask) (λ cell.
    HasMask after cell.mask) c.args.part.now n (n + 1)
    (λ cell. mask_kept before after c.with_mask-topics.ensures.kept cell.mask) c.loop-cell.invariant.asked refl
    (item_told (λ cell. HasMask after cell.mask) c.args.part.now n item c.cell-item.is
    c.with_mask-topics.ensures.asked) in
    record {
      kept = λ each low on. c.with_mask-topics.ensures.kept each low (c.loop-cell.invariant.kept each low on);
      asked = told;
    }

pub returns-clause-asked : goal.returns-clause-asked
returns-clause-asked c = λ k d low. c.loop-cell.invariant.asked k d (omega (arith, low, c.loop-cell-test.false)) low
