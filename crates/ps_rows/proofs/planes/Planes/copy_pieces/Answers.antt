use Rattle.std.proofs.Common.{◌+◌, ◌∙◌, Bool, List, refl, subst, sym}
use Rattle.ps_rows.specs.UsedPlanes.{AreAmongUsed}
use Rattle.ps_rows.proofs.PlaneCopies.{planes_and_same, planes_then}
use Rattle.ps_rows.proofs.Passed.{next_enough, next_order, none_copied, own_order, planes_enough}
use Rattle.ps_laws.proofs.common.Orders.{two_up}
use Rattle.ps_rows.proofs.planes.Planes.copy_pieces.Goals.{then-is_unmarked_plane}
use Rattle.ps_rows.proofs.planes.Planes.copy_pieces.Goals.{else-is_unmarked_plane+then-most-plane}
use Rattle.ps_rows.proofs.planes.Planes.copy_pieces.Goals.{else-is_unmarked_plane+else-most-plane}
use Rattle.ps_rows.proofs.planes.Planes.copy_pieces.Goals as goal

pub loop-plane-preserved : goal.loop-plane-preserved
loop-plane-preserved g c =
    let p = c.args.self.now in
    let was = c.loop-plane.invariant in
    elim c.if-is_unmarked_plane.branch [
      | then-is_unmarked_plane w ↦ rw (w.first-is, w.other-is) (record {
        order = own_order (c.loop-plane.plane + 1);
        copied = planes_and_same p.height c.loop-plane.first c.loop-plane.plane p.words.items
            c.args.other.now.words.items c.loop-plane.other.words.items w.copy_planes.new.other.words.items was.order
            (c.is_unmarked_plane.ensures w.if-is_unmarked_plane.true) was.copied w.copy_planes.ensures.words;
        height = w.copy_planes.ensures.height;
        count = w.copy_planes.ensures.count ∙ was.count;
        uses = w.copy_planes.ensures.uses ∙ was.uses;
      })
      | else-is_unmarked_plane+then-most-plane w ↦ rw (w.first-is, w.other-is) (record {
        order = next_order c.loop-plane.plane c.loop-plane.plane (own_order c.loop-plane.plane);
        copied = planes_then p.height c.loop-plane.first c.loop-plane.plane p.words.items c.args.other.now.words.items
            c.loop-plane.other.words.items w.copy_planes-then-most-plane.new.other.words.items was.order was.copied
            w.copy_planes-then-most-plane.ensures.words;
        height = w.copy_planes-then-most-plane.ensures.height;
        count = w.copy_planes-then-most-plane.ensures.count ∙ was.count;
        uses = w.copy_planes-then-most-plane.ensures.uses ∙ was.uses;
      })
      | else-is_unmarked_plane+else-most-plane w ↦ rw (w.first-is, w.other-is) (record {
        order = next_order c.loop-plane.first c.loop-plane.plane was.order;
        copied = was.copied;
        height = was.height;
        count = was.count;
        uses = was.uses;
      })
    ]

pub returns-clause-words : goal.returns-clause-words
returns-clause-words g c =
    let p = c.args.self.now in
    let was = c.loop-plane.invariant in
    planes_then p.height c.loop-plane.first c.args.planes p.words.items c.args.other.now.words.items
    c.loop-plane.other.words.items c.copy_planes-2.new.other.words.items
    (two_up c.loop-plane.first c.loop-plane.plane c.args.planes was.order c.loop-plane.auto.plane-end) was.copied
    c.copy_planes-2.ensures.words

pub loop-plane-init : goal.loop-plane-init
loop-plane-init g c =
    record {
      order = own_order 0;
      copied = none_copied c.args.self.now.height 0 c.args.self.now.words.items c.args.other.now.words.items;
      height = c.requires.height;
      count = c.requires.count;
      uses = refl;
    }

pub is_unmarked_plane-requires : goal.is_unmarked_plane-requires
is_unmarked_plane-requires g c =
    let p = c.args.self.now in
    record {
      height = c.loop-plane.invariant.height;
      here = next_enough p.height c.loop-plane.plane c.args.planes c.args.planes p.words.len p.words.len
          c.loop-plane-test.true (own_order c.args.planes) c.requires.here refl;
      there = next_enough p.height c.loop-plane.plane c.args.planes c.args.planes p.words.len
          c.loop-plane.other.words.len c.loop-plane-test.true (own_order c.args.planes) c.requires.here
          c.loop-plane.invariant.count;
    }

pub copy_planes-requires : goal.copy_planes-requires
copy_planes-requires g c =
    let p = c.args.self.now in
    let order = c.loop-plane.auto.plane-end in
    let U : List (List Bool) → Type 0 = AreAmongUsed p.used.words.items in
    record {
      order = c.loop-plane.invariant.order;
      height = c.loop-plane.invariant.height;
      here = planes_enough p.height c.loop-plane.plane c.args.planes p.words.len p.words.len order c.requires.here refl;
      there = planes_enough p.height c.loop-plane.plane c.args.planes p.words.len c.loop-plane.other.words.len order
          c.requires.here c.loop-plane.invariant.count;
      count = c.loop-plane.invariant.count;
      uses = subst U (sym c.loop-plane.invariant.uses) c.requires.uses;
    }

pub copy_planes-requires-then-most-plane : goal.copy_planes-requires-then-most-plane
copy_planes-requires-then-most-plane g c =
    let p = c.args.self.now in
    let order = c.loop-plane.auto.plane-end in
    let U : List (List Bool) → Type 0 = AreAmongUsed p.used.words.items in
    record {
      order = c.loop-plane.invariant.order;
      height = c.loop-plane.invariant.height;
      here = planes_enough p.height c.loop-plane.plane c.args.planes p.words.len p.words.len order c.requires.here refl;
      there = planes_enough p.height c.loop-plane.plane c.args.planes p.words.len c.loop-plane.other.words.len order
          c.requires.here c.loop-plane.invariant.count;
      count = c.loop-plane.invariant.count;
      uses = subst U (sym c.loop-plane.invariant.uses) c.requires.uses;
    }

pub copy_planes-requires-2 : goal.copy_planes-requires-2
copy_planes-requires-2 g c =
    let p = c.args.self.now in
    let was = c.loop-plane.invariant in
    let U : List (List Bool) → Type 0 = AreAmongUsed p.used.words.items in
    record {
      order = two_up c.loop-plane.first c.loop-plane.plane c.args.planes was.order c.loop-plane.auto.plane-end;
      height = was.height;
      here = c.requires.here;
      there = planes_enough p.height c.args.planes c.args.planes p.words.len c.loop-plane.other.words.len
          (own_order c.args.planes) c.requires.here was.count;
      count = was.count;
      uses = subst U (sym was.uses) c.requires.uses;
    }

pub returns-clause-height : goal.returns-clause-height
returns-clause-height g c = c.copy_planes-2.ensures.height

pub returns-clause-count : goal.returns-clause-count
returns-clause-count g c = c.copy_planes-2.ensures.count ∙ c.loop-plane.invariant.count
