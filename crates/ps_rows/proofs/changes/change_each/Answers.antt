use Rattle.std.proofs.Common.{◌≡◌, ◌∙◌, ◌<◌, ◌≤◌, ◌+◌, ◌*◌, ℕ, List, false, length, get_or, sym, refl, ap, subst, arith}
use Rattle.std.proofs.Common.{Bool}
use Rattle.std.proofs.lemmas.List.{take_all}
use Rattle.ps_rows.specs.RowChanges.{AreRowsChanged, IsRowLeft, row_after}
use Rattle.ps_rows.proofs.Marks.{listed_at}
use Rattle.ps_rows.proofs.RowChanges.{changed_more, changed_none}
use Rattle.ps_rows.proofs.changes.change_each.Goals as goal

pub change_row-any-requires-clause-row : goal.change_row-any-requires-clause-row
change_row-any-requires-clause-row g c = rw c.loop-plane.invariant.height c.requires.row

pub change_row-any-requires-clause-plane : goal.change_row-any-requires-clause-plane
change_row-any-requires-clause-plane g c =
    let below : c.loop-plane.plane-index < length c.args.places.now = omega arith in
    let plane : ℕ = get_or c.args.places.now c.loop-plane.plane-index 0 in
    let whole : (plane + 1) * c.args.planes.now.height ≤ length c.args.planes.now.words.items =
    c.requires.planes plane (listed_at c.args.places.now c.loop-plane.plane-index 0 below) in
    let long : (plane + 1) * c.args.planes.now.height ≤ c.args.planes.now.words.len =
    omega (arith, whole, c.args.planes.now.words.ok.0) in
    rw (c.loop-plane.invariant.height, c.loop-plane.invariant.count) long

pub loop-plane-preserved : goal.loop-plane-preserved
loop-plane-preserved g c =
    let below : c.loop-plane.plane-index < length c.args.places.now = omega arith in
    let plane : ℕ = get_or c.args.places.now c.loop-plane.plane-index 0 in
    let among = listed_at c.args.places.now c.loop-plane.plane-index 0 below in
    let was = c.loop-plane.invariant in
    let step = c.change_row-any.ensures in
    let made : c.change_row-any.new.planes.words.items ≡ row_after c.args.planes.now.height c.args.row c.args.change
    c.loop-plane.planes.words.items plane =
    step.words ∙ ap (λ (h : ℕ). row_after h c.args.row c.args.change c.loop-plane.planes.words.items plane) was.height
    in
    record {
      height = step.height ∙ was.height;
      count = step.count ∙ was.count;
      rows =
          changed_more c.args.planes.now.height c.args.row c.args.change c.requires.row c.args.planes.now.words.items
          c.loop-plane.planes.words.items c.change_row-any.new.planes.words.items c.args.places.now
          c.loop-plane.plane-index below
          c.requires.planes among made was.rows;
      before = λ none. was.before (step.before none);
      quiet = λ none. step.quiet none ∙ was.quiet (step.before none);
      left =
          λ none all.
          let so : c.loop-plane.any ≡ false = was.left none all in
          let P : List (List Bool) → Type 0 = λ words.
          IsRowLeft c.args.planes.now.height c.args.row c.args.change words plane in
          let H : ℕ → Type 0 = λ h. IsRowLeft h c.args.row c.args.change c.loop-plane.planes.words.items plane in
          step.left so (subst H (sym was.height) (subst P (sym (was.quiet so)) (all plane among)));
    }

pub loop-plane-init : goal.loop-plane-init
loop-plane-init g c = record {
  height = refl;
  count = refl;
  rows = changed_none c.args.planes.now.height c.args.row c.args.change c.args.planes.now.words.items;
  before = λ none. none;
  quiet = λ none. refl;
  left = λ none all. none;
}

pub returns-clause-words : goal.returns-clause-words
returns-clause-words g c =
    let end : length c.args.places.now ≤ c.loop-plane.plane-index = omega arith in
    let P : List ℕ → Type 0 = λ planes. AreRowsChanged c.args.planes.now.height c.args.row c.args.change
    c.args.planes.now.words.items c.loop-plane.planes.words.items planes in
    subst P (take_all c.loop-plane.plane-index c.args.places.now end) c.loop-plane.invariant.rows

pub returns-clause-height : goal.returns-clause-height
returns-clause-height g c = c.loop-plane.invariant.height

pub returns-clause-count : goal.returns-clause-count
returns-clause-count g c = c.loop-plane.invariant.count

pub returns-clause-before : goal.returns-clause-before
returns-clause-before g c = c.loop-plane.invariant.before

pub returns-clause-quiet : goal.returns-clause-quiet
returns-clause-quiet g c = c.loop-plane.invariant.quiet

pub returns-clause-left : goal.returns-clause-left
returns-clause-left g c = c.loop-plane.invariant.left
