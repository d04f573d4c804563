use Rattle.std.proofs.Common.{◌+◌, ◌*◌, ◌/◌, ◌%◌, ◌<◌, ◌≤◌, ◌∙◌, ℕ, ap, refl, length, get_or, arith}
use Rattle.std.proofs.lemmas.Nat.{mod_below}
use Rattle.ps_rows.specs.Planes.{with_cell}
use Rattle.ps_rows.proofs.Marks.{listed_at}
use Rattle.ps_rows.proofs.Steps.{changed_more, changed_all}
use Rattle.ps_rows.proofs.Untouched.{cell_set, cell_with}
use Rattle.ps_rows.proofs.planes.Planes.choose_plane.Goals as goal

pub set_cell-requires-clause-row : goal.set_cell-requires-clause-row
set_cell-requires-clause-row g c =
    rw c.loop-plane.invariant.1 (mod_below c.args.cell c.args.self.now.height c.args.self.now.some_row)

pub set_cell-requires-clause-plane : goal.set_cell-requires-clause-plane
set_cell-requires-clause-plane g c =
    let below : c.loop-plane.plane-index < length c.args.planes.now = omega arith in
    let whole : (get_or c.args.planes.now c.loop-plane.plane-index 0 + 1) * c.args.self.now.height ≤ length
    c.args.self.now.words.items =
    c.requires.planes (get_or c.args.planes.now c.loop-plane.plane-index 0)
    (listed_at c.args.planes.now c.loop-plane.plane-index 0 below) in
    let long : (get_or c.args.planes.now c.loop-plane.plane-index 0 + 1) * c.args.self.now.height ≤
    c.args.self.now.words.len = omega (arith, whole, c.args.self.now.words.ok.0) in
    rw (c.loop-plane.invariant.1, c.loop-plane.invariant.2) long

pub loop-plane-preserved : goal.loop-plane-preserved
loop-plane-preserved g c =
    let below : c.loop-plane.plane-index < length c.args.planes.now = omega arith in
    let plane : ℕ = get_or c.args.planes.now c.loop-plane.plane-index 0 in
    let row : ℕ = c.args.cell % c.args.self.now.height in
    let column : ℕ = c.args.cell / c.args.self.now.height in (
      changed_more c.args.self.now.height c.args.cell c.args.chosen c.loop-plane.self.words.items _ c.args.planes.now
          c.loop-plane.plane-index _ below
          (c.set_cell.ensures.words
          ∙ ap (λ (h : ℕ). cell_with row column plane c.loop-plane.self.words.items c.is_chosen.result h)
          c.loop-plane.invariant.1
          ∙ cell_set c.args.self.now.height c.args.cell plane row column c.loop-plane.self.words.items
          c.is_chosen.result refl refl
          ∙ ap (with_cell c.args.self.now.height c.loop-plane.self.words.items c.args.cell plane) c.is_chosen.ensures)
          c.loop-plane.invariant.0,
      c.set_cell.ensures.height ∙ c.loop-plane.invariant.1,
      c.set_cell.ensures.count ∙ c.loop-plane.invariant.2,
    )

pub returns-clause-words : goal.returns-clause-words
returns-clause-words g c =
    let end : length c.args.planes.now ≤ c.loop-plane.plane-index = omega arith in
    changed_all c.args.self.now.height c.args.cell c.args.chosen c.loop-plane.self.words.items c.args.planes.now
    c.loop-plane.plane-index _ end c.loop-plane.invariant.0

pub returns-clause-height : goal.returns-clause-height
returns-clause-height g c = c.loop-plane.invariant.1

pub returns-clause-count : goal.returns-clause-count
returns-clause-count g c = c.loop-plane.invariant.2
