use Rattle.std.proofs.Common.{◌≡◌, ◌≤◌, ◌<◌, ◌∙◌, ℕ, Bool, List, length, true, refl, sym, ap, arith}
use Rattle.ps_model.specs.declared.limits.TheConstants.{SIDE_LIMIT}
use Rattle.ps_board.specs.ColumnSets.{column_at, no_columns}
use Rattle.ps_board.proofs.ColumnLaws.{with_here}
use Rattle.ps_rows.specs.Planes.{row_of}
use Rattle.ps_rows.proofs.Absent.{not_marked_there}
use Rattle.ps_rows.proofs.Marked.{planes_indexed}
use Rattle.ps_rows.proofs.row_board.RowBoard.marked_row.Goals as goal

pub returns-then-not-is_marked_in : goal.returns-then-not-is_marked_in
returns-then-not-is_marked_in g c =
    let b = c.args.self.now in
    let row : ℕ = c.args.row in
    let object : ℕ = (c.args.sought.now.object).0 in
    let low : row < SIDE_LIMIT = omega (arith, c.requires.row, b.planes.rows) in
    let on : column_at c.args.here row ≡ true =
    ap (λ (set : List Bool). column_at set row) c.requires.here ∙ with_here no_columns row true low in
    let counted : length b.members.table.items ≤ b.planes.index.len =
    omega (
      arith,
      planes_indexed b.members.table.items b.layers b.planes.height b.planes.words.len b.planes.index.len
          b.planes.some_row b.planes.whole b.whole,
    ) in
    rw c.none.ensures
    (not_marked_there b.members.table.items b.width b.planes.height b.layers b.planes.words.items b.planes.index.items
    b.planes.index.len row c.args.sought.now _ b.planes.some_row b.columns c.requires.row b.objects counted
    b.planes.marked refl
    (λ below. ap (λ (marks : List (List Bool)). column_at (row_of marks object) row) (sym c.requires.marks)
    ∙ c.is_marked_in.ensures c.if-not-is_marked_in.true row low on))
