use Rattle.std.proofs.Common.{◌≡◌, ◌≤◌, ◌∙◌, Bool, List, false, length, ap, sym, arith}
use Rattle.ps_board.specs.ColumnSets.{column_at}
use Rattle.ps_rows.proofs.Marked.{planes_indexed}
use Rattle.ps_rows.proofs.Unmarked.{not_holding}
use Rattle.ps_rows.specs.Planes.{row_of}
use Rattle.ps_rows.proofs.row_board.RowBoardBoard.rows_holding.Goals as goal

pub returns-then-count-object : goal.returns-then-count-object
returns-then-count-object g c = λ row under none.
    let b = c.args.self.now in
    let counted : length b.members.table.items ≤ b.planes.index.len =
    omega (
      arith,
      planes_indexed b.members.table.items b.layers b.planes.height b.planes.words.len b.planes.index.len
          b.planes.some_row b.planes.whole b.whole,
    ) in
    let beyond : length b.members.table.items ≤ c.args.object.0 =
    omega (arith, c.count.ensures.value, c.if-count-object.true) in
    not_holding b.members.table.items b.width b.planes.height b.layers b.planes.words.items row b.planes.some_row
    b.columns under b.planes.index.items b.planes.index.len c.args.object b.objects counted
    b.planes.marked (λ below. absurd (omega arith))

pub returns : goal.returns
returns g c = λ row under none.
    let b = c.args.self.now in
    let counted : length b.members.table.items ≤ b.planes.index.len =
    omega (
      arith,
      planes_indexed b.members.table.items b.layers b.planes.height b.planes.words.len b.planes.index.len
          b.planes.some_row b.planes.whole b.whole,
    ) in
    let clear : column_at (row_of b.planes.index.items c.args.object.0) row ≡ false =
    ap (λ (word : List Bool). column_at word row) (sym c.rows_of.ensures) ∙ none in
    not_holding b.members.table.items b.width b.planes.height b.layers b.planes.words.items row b.planes.some_row
    b.columns under b.planes.index.items b.planes.index.len c.args.object b.objects counted
    b.planes.marked (λ below. clear)
