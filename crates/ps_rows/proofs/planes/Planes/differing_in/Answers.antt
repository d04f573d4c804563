use Rattle.std.proofs.Common.{◌≡◌, ◌<◌, ◌≤◌, ◌+◌, ◌*◌, ◌∙◌, ℕ, Bool, List, refl, sym, ap, subst, arith}
use Rattle.ps_board.specs.ColumnSets.{either_columns, unlike_columns}
use Rattle.ps_rows.specs.Planes.{row_of}
use Rattle.ps_rows.specs.Sameness.{HasDifferences}
use Rattle.ps_rows.proofs.BlankPlanes.{differences_over}
use Rattle.ps_rows.proofs.Differences.{one_plane_more}
use Rattle.ps_rows.proofs.Passed.{next_enough, own_order, same_order}
use Rattle.ps_rows.proofs.planes.Planes.differing_in.Goals as goal

pub loop-plane-init : goal.loop-plane-init
loop-plane-init g c =
    let p = c.args.self.now in
    let o = c.args.other.now in
    record {
      few = c.next_marked-plane.ensures.few;
      differ = differences_over p.height c.args.row 0 c.next_marked-plane.result p.words.items o.words.items
          c.none-differing.result c.requires.row (λ plane x below low off. absurd (omega (arith, below)))
          c.next_marked-plane.ensures.here c.next_marked-plane.ensures.there;
    }

pub row-requires-clause-plane : goal.row-requires-clause-plane
row-requires-clause-plane g c =
    let p = c.args.self.now in
    next_enough p.height c.loop-plane.plane c.args.planes c.args.planes p.words.len p.words.len c.loop-plane-test.true
    (own_order c.args.planes) c.requires.here refl

pub row-requires-in-loop-plane-clause-plane : goal.row-requires-in-loop-plane-clause-plane
row-requires-in-loop-plane-clause-plane g c =
    let o = c.args.other.now in
    let enough : (c.loop-plane.plane + 1) * c.args.self.now.height ≤ o.words.len =
    next_enough c.args.self.now.height c.loop-plane.plane c.args.planes c.args.planes o.words.len o.words.len
    c.loop-plane-test.true (own_order c.args.planes) c.requires.there refl in
    rw c.requires.height enough

pub loop-plane-preserved : goal.loop-plane-preserved
loop-plane-preserved g c =
    let p = c.args.self.now in
    let o = c.args.other.now in
    let plane : ℕ = c.loop-plane.plane in
    let there : c.row-in-loop-plane.result ≡ row_of o.words.items (plane * p.height + c.args.row) =
    c.row-in-loop-plane.ensures ∙ ap (λ (h : ℕ). row_of o.words.items (plane * h + c.args.row)) c.requires.height in
    let D : List Bool → Type 0 = λ w. HasDifferences p.height c.args.row (plane + 1) p.words.items o.words.items w in
    let same : either_columns c.loop-plane.differing (unlike_columns (row_of p.words.items (plane * p.height + c.args.row))
    (row_of o.words.items (plane * p.height + c.args.row))) ≡ c.either-differing.result =
    sym (c.either-differing.ensures
    ∙ ap (either_columns c.loop-plane.differing) (c.unlike-unlike.ensures
    ∙ ap (λ (w : List Bool). unlike_columns w c.row-in-loop-plane.result) c.row.ensures
    ∙ ap (unlike_columns (row_of p.words.items (plane * p.height + c.args.row))) there)) in
    record {
      few = c.next_marked-plane-in-loop-plane.ensures.few;
      differ = differences_over p.height c.args.row (plane + 1) c.next_marked-plane-in-loop-plane.result p.words.items o.words.items
          c.either-differing.result c.requires.row
          (subst D same (one_plane_more p.height c.args.row plane p.words.items o.words.items c.loop-plane.differing
          c.loop-plane.invariant.differ))
          c.next_marked-plane-in-loop-plane.ensures.here c.next_marked-plane-in-loop-plane.ensures.there;
    }

pub returns : goal.returns
returns g c =
    let p = c.args.self.now in
    let D : ℕ → Type 0 = λ n. HasDifferences p.height c.args.row n p.words.items c.args.other.now.words.items
    c.loop-plane.differing in
    subst D (same_order c.loop-plane.plane c.args.planes c.loop-plane.invariant.few c.loop-plane-test.false)
    c.loop-plane.invariant.differ
