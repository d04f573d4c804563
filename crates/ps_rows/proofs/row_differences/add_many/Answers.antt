use Rattle.std.proofs.Common.{◌≡◌, ◌*◌, ℕ, Bool, List, refl, subst, arith}
use Rattle.ps_rows.specs.MixedPlanes.{mixed_planes}
use Rattle.ps_rows.specs.RowDifferences.{LeadBothWays}
use Rattle.ps_rows.proofs.Passed.{next_enough, own_order}
use Rattle.ps_rows.proofs.row_differences.add_many.Goals as goal

pub loop-plane-init : goal.loop-plane-init
loop-plane-init g c =
    let p = c.args.first.now in
    let start : 0 ≡ 0 * p.height = omega arith in
    let mixed : List (List Bool) = mixed_planes p.height c.args.rows p.words.items c.args.second.now.words.items in
    let E : ℕ → Type 0 = λ end. LeadBothWays p.height end p.words.items mixed c.args.found.now.items in
    subst E start c.requires.before

pub add_differences-requires : goal.add_differences-requires
add_differences-requires g c =
    let p = c.args.first.now in
    record {
      height = c.requires.height;
      count = c.requires.count;
      plane = next_enough p.height c.loop-plane.plane c.args.planes c.args.planes p.words.len p.words.len
          c.loop-plane-test.true (own_order c.args.planes) c.requires.planes refl;
      rows = c.requires.rows;
      before = c.loop-plane.invariant;
    }

pub loop-plane-preserved : goal.loop-plane-preserved
loop-plane-preserved g c = c.in_ok-add_differences.ensures

pub returns : goal.returns
returns g c = λ enough.
    let p = c.args.first.now in
    let end : c.loop-plane.plane ≡ c.args.planes =
    omega (arith, c.loop-plane-test.false, c.loop-plane.auto.plane-end) in
    let mixed : List (List Bool) = mixed_planes p.height c.args.rows p.words.items c.args.second.now.words.items in
    let E : ℕ → Type 0 = λ plane. LeadBothWays p.height (plane * p.height) p.words.items mixed
    c.loop-plane.found.items in
    subst E end c.loop-plane.invariant
