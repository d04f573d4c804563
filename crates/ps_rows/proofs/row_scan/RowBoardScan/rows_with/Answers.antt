use Rattle.std.proofs.Common.{◌≤◌, ◌∙◌, List, Bool, refl, sym, ap, arith, length}
use Rattle.ps_board.specs.ColumnSets.{column_at}
use Rattle.ps_rows.proofs.Absent.{not_marked_there, not_on_row}
use Rattle.ps_rows.proofs.Marked.{planes_indexed}
use Rattle.ps_rows.proofs.row_scan.RowBoardScan.rows_with.Goals as goal

pub returns-then-objects-object : goal.returns-then-objects-object
returns-then-objects-object g c = λ row under none.
    let b = c.args.self.now in
    let counted : length b.members.table.items ≤ b.planes.index.len =
    omega (
      arith,
      planes_indexed b.members.table.items b.layers b.planes.height b.planes.words.len b.planes.index.len
          b.planes.some_row b.planes.whole b.whole,
    ) in
    not_on_row b.members.table.items b.width b.planes.height b.layers b.planes.words.items row c.args.object.now
    (not_marked_there b.members.table.items b.width b.planes.height b.layers b.planes.words.items b.planes.index.items
    b.planes.index.len row c.args.object.now _ b.planes.some_row b.columns under b.objects counted b.planes.marked refl
    (λ below. absurd (omega (arith, below, c.objects.ensures, c.if-objects-object.true))))

pub returns : goal.returns
returns g c = λ row under none.
    let b = c.args.self.now in
    let counted : length b.members.table.items ≤ b.planes.index.len =
    omega (
      arith,
      planes_indexed b.members.table.items b.layers b.planes.height b.planes.words.len b.planes.index.len
          b.planes.some_row b.planes.whole b.whole,
    ) in
    not_on_row b.members.table.items b.width b.planes.height b.layers b.planes.words.items row c.args.object.now
    (not_marked_there b.members.table.items b.width b.planes.height b.layers b.planes.words.items b.planes.index.items
    b.planes.index.len row c.args.object.now _ b.planes.some_row b.columns under b.objects counted b.planes.marked refl
    (λ below. ap (λ (word : List Bool). column_at word row) (sym c.rows_of.ensures) ∙ none))
