use Rattle.std.proofs.Common.{◌≡◌, ◌*◌, ◌+◌, ◌≤◌, ◌<◌, ◌∙◌, ℕ, Bool, List, length, refl, sym, subst, arith}
use Rattle.ps_board.specs.ColumnSets.{no_columns}
use Rattle.ps_rows.specs.MixedPlanes.{mixed_planes}
use Rattle.ps_rows.specs.RowDifferences.{LeadBothWays}
use Rattle.ps_rows.proofs.BlankPlanes.{blank_same}
use Rattle.ps_rows.proofs.MixedPlanes.{mixed_plane}
use Rattle.ps_rows.proofs.Passed.{next_enough, own_order, planes_enough, same_order}
use Rattle.ps_rows.proofs.RowDifferences.{both_planes}
use Rattle.ps_rows.proofs.row_differences.add_marked.Goals as goal

pub next_marked-plane-requires : goal.next_marked-plane-requires
next_marked-plane-requires g c =
    let p = c.args.first.now in
    record {
      many = c.requires.many;
      order = omega arith;
      height = c.requires.height;
      here = c.requires.planes;
      there = planes_enough p.height c.args.planes c.args.planes p.words.len c.args.second.now.words.len
          (own_order c.args.planes) c.requires.planes c.requires.count;
    }

pub loop-plane-init : goal.loop-plane-init
loop-plane-init g c =
    let p = c.args.first.now in
    let o = c.args.second.now in
    let start : 0 ≡ 0 * p.height = omega arith in
    let mixed : List (List Bool) = mixed_planes p.height c.args.rows p.words.items o.words.items in
    let long : length o.words.items ≡ length p.words.items = sym o.words.ok.0 ∙ c.requires.count ∙ p.words.ok.0 in
    let E : ℕ → Type 0 = λ end. LeadBothWays p.height end p.words.items mixed c.args.found.now.items in
    record {
      few = c.next_marked-plane.ensures.few;
      lead = both_planes p.height 0 c.next_marked-plane.result p.words.items mixed c.args.found.now.items p.some_row
          (omega arith)
          (λ plane from below. mixed_plane p.height c.args.rows p.words.items o.words.items long plane
          (blank_same p.height 0 c.next_marked-plane.result p.words.items o.words.items
          c.next_marked-plane.ensures.here c.next_marked-plane.ensures.there plane from below))
          (subst E start c.requires.before);
    }

pub add_differences-requires : goal.add_differences-requires
add_differences-requires g c =
    let p = c.args.first.now in
    record {
      height = c.requires.height;
      count = c.requires.count;
      plane = next_enough p.height c.loop-plane.plane c.args.planes c.args.planes p.words.len p.words.len
          c.loop-plane-test.true (own_order c.args.planes) c.requires.planes refl;
      rows = c.requires.rows;
      before = c.loop-plane.invariant.lead;
    }

pub next_marked-plane-requires-in-loop-plane : goal.next_marked-plane-requires-in-loop-plane
next_marked-plane-requires-in-loop-plane g c =
    let p = c.args.first.now in
    record {
      many = c.requires.many;
      order = omega (arith, c.loop-plane-test.true);
      height = c.requires.height;
      here = c.requires.planes;
      there = planes_enough p.height c.args.planes c.args.planes p.words.len c.args.second.now.words.len
          (own_order c.args.planes) c.requires.planes c.requires.count;
    }

pub loop-plane-preserved : goal.loop-plane-preserved
loop-plane-preserved g c =
    let p = c.args.first.now in
    let o = c.args.second.now in
    let plane : ℕ = c.loop-plane.plane in
    let mixed : List (List Bool) = mixed_planes p.height c.args.rows p.words.items o.words.items in
    let long : length o.words.items ≡ length p.words.items = sym o.words.ok.0 ∙ c.requires.count ∙ p.words.ok.0 in
    record {
      few = c.next_marked-plane-in-loop-plane.ensures.few;
      lead = both_planes p.height (plane + 1) c.next_marked-plane-in-loop-plane.result p.words.items mixed
          c.add_differences.new.found.items p.some_row c.next_marked-plane-in-loop-plane.ensures.order
          (λ each from below. mixed_plane p.height c.args.rows p.words.items o.words.items long each
          (blank_same p.height (plane + 1) c.next_marked-plane-in-loop-plane.result p.words.items o.words.items
          c.next_marked-plane-in-loop-plane.ensures.here c.next_marked-plane-in-loop-plane.ensures.there each from below))
          c.in_ok-add_differences.ensures;
    }

pub returns : goal.returns
returns g c = λ enough.
    let p = c.args.first.now in
    let mixed : List (List Bool) = mixed_planes p.height c.args.rows p.words.items c.args.second.now.words.items in
    let E : ℕ → Type 0 = λ plane. LeadBothWays p.height (plane * p.height) p.words.items mixed
    c.loop-plane.found.items in
    subst E (same_order c.loop-plane.plane c.args.planes c.loop-plane.invariant.few c.loop-plane-test.false)
    c.loop-plane.invariant.lead
