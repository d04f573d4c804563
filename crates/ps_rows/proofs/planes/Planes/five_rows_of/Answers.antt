use Rattle.std.proofs.Common.{◌≡◌, ◌+◌, ◌<◌, ◌∙◌, ℕ, List, Bool, length, refl, ap, arith}
use Rattle.std.proofs.lemmas.List.{get_or_read}
use Rattle.ps_board.specs.ColumnSets.{no_columns}
use Rattle.ps_rows.specs.Planes.{row_of}
use Rattle.ps_rows.proofs.Marked.{five_unmarked}
use Rattle.ps_rows.proofs.PlaneCopies.{planes_within}
use Rattle.ps_rows.proofs.planes.Planes.five_rows_of.Goals as goal

pub five_marked-five-requires : goal.five_marked-five-requires
five_marked-five-requires g c =
    let p = c.args.self.now in
    planes_within p.height (c.args.first + 5) p.index.len p.some_row (omega (arith, c.requires.planes, p.whole))

pub returns : goal.returns
returns g c =
    let p = c.args.self.now in
    let five : List (List Bool) = c.five_marked-five.result.now in
    let own : (k : ℕ) → k < 5 → k < length five = λ k few. omega (arith, few, c.five_marked-five.ensures.long) in
    let same : c.args.first + 0 ≡ c.args.first = omega arith in
    let at-0 : c.index-five-0.result ≡ row_of p.index.items c.args.first =
    get_or_read five 0 _ (own 0 (omega arith)) c.index-five-0.is no_columns
    ∙ c.five_marked-five.ensures.rows 0 (omega arith) ∙ ap (λ (plane : ℕ). row_of p.index.items plane) same in
    let at-1 : c.index-five-1.result ≡ row_of p.index.items (c.args.first + 1) =
    get_or_read five 1 _ (own 1 (omega arith)) c.index-five-1.is no_columns
    ∙ c.five_marked-five.ensures.rows 1 (omega arith) in
    let at-2 : c.index-five-2.result ≡ row_of p.index.items (c.args.first + 2) =
    get_or_read five 2 _ (own 2 (omega arith)) c.index-five-2.is no_columns
    ∙ c.five_marked-five.ensures.rows 2 (omega arith) in
    let at-3 : c.index-five-3.result ≡ row_of p.index.items (c.args.first + 3) =
    get_or_read five 3 _ (own 3 (omega arith)) c.index-five-3.is no_columns
    ∙ c.five_marked-five.ensures.rows 3 (omega arith) in
    let at-4 : c.index-five-4.result ≡ row_of p.index.items (c.args.first + 4) =
    get_or_read five 4 _ (own 4 (omega arith)) c.index-five-4.is no_columns
    ∙ c.five_marked-five.ensures.rows 4 (omega arith) in
    five_unmarked p.index.len p.height c.args.first p.words.len p.words.items p.index.items c.either-4.result p.some_row
    p.rows p.whole c.requires.planes p.marked
    (rw (
      c.either-4.ensures,
      c.either-3.ensures,
      c.either-2.ensures,
      c.either.ensures,
      at-0,
      at-1,
      at-2,
      at-3,
      at-4,
    ) refl)
