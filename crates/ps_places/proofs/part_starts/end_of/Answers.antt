use Rattle.std.proofs.Common.{◌+◌, ◌≤◌, ◌/◌, arith}
use Rattle.ps_places.proofs.FoundRows.{all_below}
use Rattle.ps_places.proofs.part_starts.end_of.Goals as goal

pub returns-then-is_empty-clause-rows : goal.returns-then-is_empty-clause-rows
returns-then-is_empty-clause-rows g c =
    all_below c.args.rows c.not_below.result (c.args.first + 1) c.args.count c.not_below.ensures
    (c.is_empty.ensures.none c.if-is_empty.true) c.requires.few c.requires.below

pub loop-end-preserved : goal.loop-end-preserved
loop-end-preserved g c =
    let less : c.loop-end.end / 2 ≤ c.loop-end.end = omega arith in
    record {
      rows =
          all_below c.args.rows c.not_below-in-loop-end.result (c.loop-end.end / 2) c.args.count
          c.not_below-in-loop-end.ensures (c.is_empty-in-loop-end.ensures.none c.if-is_empty-2.true) c.requires.few
          c.requires.below;
      first = c.loop-end-test.true;
      below = omega (arith, less, c.loop-end.invariant.below);
    }
