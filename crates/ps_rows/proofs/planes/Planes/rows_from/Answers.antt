use Rattle.std.proofs.Common.{◌≡◌, ◌<◌, ◌∙◌, ℕ, inl, inr, Bool, List, sym, ap, arith, length}
use Rattle.std.proofs.lemmas.Bool.{cases_lt, or_parts}
use Rattle.std.proofs.lemmas.List.{get_or_read}
use Rattle.ps_board.specs.ColumnSets.{column_at, no_columns}
use Rattle.ps_rows.specs.Planes.{row_of}
use Rattle.ps_rows.proofs.Sets.{either_at}
use Rattle.ps_rows.proofs.planes.Planes.rows_from.Goals as goal

pub loop-plane-preserved : goal.loop-plane-preserved
loop-plane-preserved g c = λ plane row from less low none.
    let p = c.args.self.now in
    let at : ℕ = c.loop-plane.plane in
    let own : at < length p.index.items =
    omega (arith, c.loop-plane-test.true, c.len-plane-end.ensures, p.index.ok.0) in
    let is : c.index.result.now ≡ row_of p.index.items at = get_or_read p.index.items _ _ own c.index.ensures no_columns
    in
    let parts =
    or_parts (column_at c.loop-plane.marked row) (column_at c.index.result.now row)
    (sym (either_at c.loop-plane.marked c.index.result.now row low)
    ∙ ap (λ (set : List Bool). column_at set row) (sym c.either-marked.ensures) ∙ none) in
    elim (cases_lt plane at) [
      | inl before ↦ c.loop-plane.invariant plane row from before low parts.0
      | inr here ↦
          let same : plane ≡ at = omega (arith, here, less) in
          ap (λ (q : ℕ). column_at (row_of p.index.items q) row) same
          ∙ ap (λ (set : List Bool). column_at set row) (sym is) ∙ parts.1
    ]

pub returns : goal.returns
returns g c = λ plane row from less low none.
    c.loop-plane.invariant plane row from (omega (arith, less, c.loop-plane-test.false, c.len-plane-end.ensures)) low
    none
