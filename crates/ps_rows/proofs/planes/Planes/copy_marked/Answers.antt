use Rattle.std.proofs.Common.{◌≡◌, ◌<◌, ◌≤◌, ◌+◌, ◌*◌, ◌∙◌, ℕ, Bool, List, refl, sym, subst, arith}
use Rattle.ps_rows.specs.BlankPlanes.{AreBlank}
use Rattle.ps_rows.specs.PlaneCopies.{ArePlanesOf}
use Rattle.ps_rows.specs.UsedPlanes.{AreAmongUsed}
use Rattle.ps_rows.proofs.BlankPlanes.{blank_same}
use Rattle.ps_rows.proofs.PlaneCopies.{planes_and_rest, planes_then}
use Rattle.ps_rows.proofs.Passed.{next_enough, next_order, none_copied, own_order, planes_enough, same_order}
use Rattle.ps_rows.proofs.planes.Planes.copy_marked.Goals as goal

-- one plane more, and blank ones behind it
marked_more : (height plane next : ℕ) (source before between after : List (List Bool)) → plane + 1 ≤ next →
    ArePlanesOf height 0 plane source before between → ArePlanesOf height plane (plane + 1) source between after →
    AreBlank height (plane + 1) next source → AreBlank height (plane + 1) next after →
    ArePlanesOf height 0 next source before after
marked_more height plane next source before between after order was more mine theirs =
    let copied : ArePlanesOf height 0 (plane + 1) source before after =
    planes_then height plane (plane + 1) source before between after (next_order plane plane (own_order plane)) was more
    in
    planes_and_rest height (plane + 1) next source before after order
    (λ p from below row under off. mine p row from below under ∙ sym (theirs p row from below under)
    ∙ copied.behind p row under from)
    copied

pub next_marked-plane-requires : goal.next_marked-plane-requires
next_marked-plane-requires g c =
    let p = c.args.self.now in
    record {
      many = c.requires.many;
      order = omega arith;
      height = c.requires.height;
      here = c.requires.here;
      there = planes_enough p.height c.args.planes c.args.planes p.words.len c.args.other.now.words.len
          (own_order c.args.planes) c.requires.here c.requires.count;
    }

pub loop-plane-init : goal.loop-plane-init
loop-plane-init g c =
    let p = c.args.self.now in
    let o = c.args.other.now in
    let first : ℕ = c.next_marked-plane.result in
    record {
      few = c.next_marked-plane.ensures.few;
      copied = planes_and_rest p.height 0 first p.words.items o.words.items o.words.items (omega arith)
          (blank_same p.height 0 first p.words.items o.words.items c.next_marked-plane.ensures.here
          c.next_marked-plane.ensures.there)
          (none_copied p.height 0 p.words.items o.words.items);
      height = c.requires.height;
      count = c.requires.count;
      uses = refl;
    }

pub copy_planes-requires : goal.copy_planes-requires
copy_planes-requires g c =
    let p = c.args.self.now in
    let was = c.loop-plane.invariant in
    let U : List (List Bool) → Type 0 = AreAmongUsed p.used.words.items in
    record {
      order = next_order c.loop-plane.plane c.loop-plane.plane (own_order c.loop-plane.plane);
      height = was.height;
      here = next_enough p.height c.loop-plane.plane c.args.planes c.args.planes p.words.len p.words.len
          c.loop-plane-test.true (own_order c.args.planes) c.requires.here refl;
      there = next_enough p.height c.loop-plane.plane c.args.planes c.args.planes p.words.len
          c.loop-plane.other.words.len c.loop-plane-test.true (own_order c.args.planes) c.requires.here was.count;
      count = was.count;
      uses = subst U (sym was.uses) c.requires.uses;
    }

pub next_marked-plane-requires-in-loop-plane : goal.next_marked-plane-requires-in-loop-plane
next_marked-plane-requires-in-loop-plane g c =
    let p = c.args.self.now in
    record {
      many = c.requires.many;
      order = omega (arith, c.loop-plane-test.true);
      height = c.copy_planes.ensures.height;
      here = c.requires.here;
      there = planes_enough p.height c.args.planes c.args.planes p.words.len c.copy_planes.new.other.words.len
          (own_order c.args.planes) c.requires.here (c.copy_planes.ensures.count ∙ c.loop-plane.invariant.count);
    }

pub loop-plane-preserved : goal.loop-plane-preserved
loop-plane-preserved g c =
    let p = c.args.self.now in
    let was = c.loop-plane.invariant in
    record {
      few = c.next_marked-plane-in-loop-plane.ensures.few;
      copied = marked_more p.height c.loop-plane.plane c.next_marked-plane-in-loop-plane.result p.words.items
          c.args.other.now.words.items c.loop-plane.other.words.items c.copy_planes.new.other.words.items
          c.next_marked-plane-in-loop-plane.ensures.order was.copied c.copy_planes.ensures.words c.next_marked-plane-in-loop-plane.ensures.here
          c.next_marked-plane-in-loop-plane.ensures.there;
      height = c.copy_planes.ensures.height;
      count = c.copy_planes.ensures.count ∙ was.count;
      uses = c.copy_planes.ensures.uses ∙ was.uses;
    }

pub returns-clause-words : goal.returns-clause-words
returns-clause-words g c =
    let p = c.args.self.now in
    let C : ℕ → Type 0 = λ n. ArePlanesOf p.height 0 n p.words.items c.args.other.now.words.items
    c.loop-plane.other.words.items in
    subst C (same_order c.loop-plane.plane c.args.planes c.loop-plane.invariant.few c.loop-plane-test.false)
    c.loop-plane.invariant.copied
