use Rattle.std.proofs.Common.{◌≡◌, ◌≤◌, ◌∙◌, ℕ, [], refl, sym, ap, length, arith}
use Rattle.ps_board.specs.ColumnSets.{set_columns}
use Rattle.ps_board.proofs.ColumnLaws.{none_in}
use Rattle.ps_rows.specs.Planes.{row_of}
use Rattle.ps_rows.proofs.Absent.{not_marked_there, nowhere_by_rows}
use Rattle.ps_rows.proofs.Marked.{planes_indexed}
use Rattle.ps_rows.proofs.row_scan.RowBoardScan.lacks.Goals as goal

pub returns-then-objects-object : goal.returns-then-objects-object
returns-then-objects-object g c = λ e.
    let b = c.args.self.now in
    let counted : length b.members.table.items ≤ b.planes.index.len =
    omega (
      arith,
      planes_indexed b.members.table.items b.layers b.planes.height b.planes.words.len b.planes.index.len
          b.planes.some_row b.planes.whole b.whole,
    ) in
    nowhere_by_rows b.members.table.items b.width b.planes.height b.layers b.planes.words.items c.args.object.now
    b.planes.some_row
    (λ row low. not_marked_there b.members.table.items b.width b.planes.height b.layers b.planes.words.items
    b.planes.index.items b.planes.index.len row c.args.object.now _ b.planes.some_row b.columns low b.objects counted
    b.planes.marked refl
    (λ below. absurd (omega (arith, below, c.objects.ensures, c.if-objects-object.true))))

pub returns : goal.returns
returns g c = λ e.
    let b = c.args.self.now in
    let counted : length b.members.table.items ≤ b.planes.index.len =
    omega (
      arith,
      planes_indexed b.members.table.items b.layers b.planes.height b.planes.words.len b.planes.index.len
          b.planes.some_row b.planes.whole b.whole,
    ) in
    let object : ℕ = (c.args.object.now.object).0 in
    let none : set_columns (row_of b.planes.index.items object) ≡ [] = ap set_columns (sym c.rows_of.ensures)
    ∙ c.is_empty.ensures.none e in
    nowhere_by_rows b.members.table.items b.width b.planes.height b.layers b.planes.words.items c.args.object.now
    b.planes.some_row
    (λ row low. not_marked_there b.members.table.items b.width b.planes.height b.layers b.planes.words.items
    b.planes.index.items b.planes.index.len row c.args.object.now _ b.planes.some_row b.columns low b.objects counted
    b.planes.marked refl
    (λ below. none_in (row_of b.planes.index.items object) row none (omega (arith, low, b.planes.rows))))
