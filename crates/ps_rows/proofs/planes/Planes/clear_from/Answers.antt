use Rattle.std.proofs.Common.{◌+◌, ◌*◌, ◌≤◌, ◌∙◌, ℕ, [], length, refl, sym, subst, arith}
use Rattle.ps_board.proofs.ColumnLaws.{none_in}
use Rattle.ps_rows.proofs.PlaneCopies.{all_cleared, behind_plane, unmarked_rest}
use Rattle.ps_rows.specs.PlaneCopies.{ArePlanesOf}
use Rattle.ps_rows.proofs.Passed.{indexed_enough, none_copied, planes_more}
use Rattle.ps_rows.proofs.planes.Planes.clear_from.Goals as goal

pub returns-clause-words : goal.returns-clause-words
returns-clause-words g c =
    let p = c.args.self.now in
    let reached : p.index.len ≤ c.loop-plane.plane = omega (arith, c.loop-plane-test.false, c.len-plane-end.ensures) in
    let enough = behind_plane p.height p.index.len c.loop-plane.plane reached in
    let within : c.args.first * p.height ≤ length p.words.items = omega (arith, c.requires, p.words.ok.0) in
    let whole : length p.words.items ≤ c.loop-plane.plane * p.height = omega (arith, enough, p.whole, p.words.ok.0) in
    all_cleared p.height c.args.first c.loop-plane.plane p.words.items c.loop-plane.self.words.items p.some_row within
    whole
    (sym c.loop-plane.self.words.ok.0 ∙ c.loop-plane.invariant.2 ∙ p.words.ok.0) c.loop-plane.invariant.0

pub returns-then-is_empty-clause-words : goal.returns-then-is_empty-clause-words
returns-then-is_empty-clause-words g c =
    let p = c.args.self.now in
    let within : c.args.first * p.height ≤ length p.words.items = omega (arith, c.requires, p.words.ok.0) in
    let whole : length p.words.items ≤ p.index.len * p.height = omega (arith, p.whole, p.words.ok.0) in
    all_cleared p.height c.args.first p.index.len p.words.items p.words.items p.some_row within whole refl
    (unmarked_rest p.index.len p.height c.args.first p.words.items p.index.items p.rows p.marked
    (λ plane row from less low.
    c.rows_from.ensures plane row from less low
    (none_in c.rows_from.result row (c.is_empty.ensures.none c.if-is_empty.true) low)))

pub loop-plane-init : goal.loop-plane-init
loop-plane-init g c = (
  none_copied c.args.self.now.height c.args.first [] c.args.self.now.words.items,
  refl,
  refl,
  refl,
)

pub clear_marked-requires : goal.clear_marked-requires
clear_marked-requires g c =
    let p = c.args.self.now in
    let was = c.loop-plane.invariant in
    indexed_enough p.height c.loop-plane.self.height p.index.len c.len-plane-end.result c.loop-plane.plane p.words.len
    c.loop-plane.self.words.len c.loop-plane-test.true c.len-plane-end.ensures was.1 p.whole was.2

pub loop-plane-preserved : goal.loop-plane-preserved
loop-plane-preserved g c =
    let was = c.loop-plane.invariant in
    let H : ℕ → Type 0 = λ h. ArePlanesOf h c.loop-plane.plane (c.loop-plane.plane + 1) [] c.loop-plane.self.words.items
    c.clear_marked.new.self.words.items in (
      planes_more c.args.self.now.height c.args.first c.loop-plane.plane [] c.args.self.now.words.items
          c.loop-plane.self.words.items c.clear_marked.new.self.words.items c.loop-plane.auto.plane was.0
          (subst H was.1 c.clear_marked.ensures.words),
      c.clear_marked.ensures.height ∙ was.1,
      c.clear_marked.ensures.count ∙ was.2,
      c.clear_marked.ensures.marks ∙ was.3,
    )

pub returns-clause-height : goal.returns-clause-height
returns-clause-height g c = c.loop-plane.invariant.1

pub returns-clause-count : goal.returns-clause-count
returns-clause-count g c = c.loop-plane.invariant.2
