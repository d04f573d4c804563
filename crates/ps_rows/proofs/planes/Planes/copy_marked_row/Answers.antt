use Rattle.std.proofs.Common.{◌≡◌, ◌<◌, ◌≤◌, ◌+◌, ◌*◌, ◌∙◌, ℕ, Bool, List, length, refl, subst, arith}
use Rattle.ps_rows.specs.PlaneCopies.{IsRowCopied}
use Rattle.ps_rows.specs.Planes.{row_of}
use Rattle.ps_rows.proofs.BlankPlanes.{row_over}
use Rattle.ps_rows.proofs.Passed.{next_enough, own_order, planes_enough, same_order}
use Rattle.ps_rows.proofs.RowCopies.{no_row_copied, row_more}
use Rattle.ps_rows.proofs.planes.Planes.copy_marked_row.Goals as goal

pub next_marked-plane-requires : goal.next_marked-plane-requires
next_marked-plane-requires g c =
    let p = c.args.self.now in
    record {
      many = c.requires.many;
      order = omega arith;
      height = c.requires.height;
      here = c.requires.here;
      there = planes_enough p.height c.args.planes c.args.planes p.words.len c.args.other.now.words.len
          (own_order c.args.planes) c.requires.here c.requires.count;
    }

pub loop-plane-init : goal.loop-plane-init
loop-plane-init g c =
    let p = c.args.self.now in
    let o = c.args.other.now in
    record {
      few = c.next_marked-plane.ensures.few;
      copied = row_over p.height c.args.row 0 c.next_marked-plane.result p.words.items o.words.items o.words.items
          c.requires.row (omega arith) (no_row_copied p.height c.args.row p.words.items o.words.items)
          c.next_marked-plane.ensures.here c.next_marked-plane.ensures.there;
      height = c.requires.height;
      count = c.requires.count;
    }

pub copy_row_into-requires : goal.copy_row_into-requires
copy_row_into-requires g c =
    let p = c.args.self.now in
    let o = c.loop-plane.other in
    let plane : ℕ = c.loop-plane.plane in
    let order = own_order c.args.planes in
    record {
      row = c.requires.row;
      height = c.loop-plane.invariant.height;
      here = next_enough p.height plane c.args.planes c.args.planes p.words.len p.words.len c.loop-plane-test.true order
          c.requires.here refl;
      there = next_enough p.height plane c.args.planes c.args.planes p.words.len o.words.len c.loop-plane-test.true order
          c.requires.here c.loop-plane.invariant.count;
    }

pub next_marked-plane-requires-in-loop-plane : goal.next_marked-plane-requires-in-loop-plane
next_marked-plane-requires-in-loop-plane g c =
    let p = c.args.self.now in
    record {
      many = c.requires.many;
      order = omega (arith, c.loop-plane-test.true);
      height = c.copy_row_into.ensures.height;
      here = c.requires.here;
      there = planes_enough p.height c.args.planes c.args.planes p.words.len c.copy_row_into.new.other.words.len
          (own_order c.args.planes) c.requires.here (c.copy_row_into.ensures.count ∙ c.loop-plane.invariant.count);
    }

pub loop-plane-preserved : goal.loop-plane-preserved
loop-plane-preserved g c =
    let p = c.args.self.now in
    let o = c.loop-plane.other in
    let was = c.loop-plane.invariant in
    let plane : ℕ = c.loop-plane.plane in
    let row : ℕ = c.args.row in
    let now : List (List Bool) = o.words.items in
    let after : List (List Bool) = c.copy_row_into.new.other.words.items in
    let N : ℕ → Type 0 = λ n. (plane + 1) * p.height ≤ n in
    let enough : (plane + 1) * p.height ≤ length now =
    subst N o.words.ok.0 (next_enough p.height plane c.args.planes c.args.planes p.words.len o.words.len
    c.loop-plane-test.true (own_order c.args.planes) c.requires.here was.count) in
    let word : List Bool = row_of p.words.items (plane * p.height + row) in
    record {
      few = c.next_marked-plane-in-loop-plane.ensures.few;
      copied = row_over p.height row (plane + 1) c.next_marked-plane-in-loop-plane.result p.words.items
          c.args.other.now.words.items after c.requires.row c.next_marked-plane-in-loop-plane.ensures.order
          (row_more p.height plane row word p.words.items c.args.other.now.words.items now after c.requires.row
          enough c.copy_row_into.ensures.words refl was.copied)
          c.next_marked-plane-in-loop-plane.ensures.here c.next_marked-plane-in-loop-plane.ensures.there;
      height = c.copy_row_into.ensures.height;
      count = c.copy_row_into.ensures.count ∙ was.count;
    }

pub returns-clause-row : goal.returns-clause-row
returns-clause-row g c =
    let p = c.args.self.now in
    let C : ℕ → Type 0 = λ n. IsRowCopied p.height n c.args.row p.words.items c.args.other.now.words.items
    c.loop-plane.other.words.items in
    subst C (same_order c.loop-plane.plane c.args.planes c.loop-plane.invariant.few c.loop-plane-test.false)
    c.loop-plane.invariant.copied
