use Rattle.std.proofs.Common.{◌*◌, ◌≤◌, ℕ, length, arith}
use Rattle.ps_board.proofs.ColumnLaws.{none_in}
use Rattle.ps_rows.proofs.PlaneCopies.{unmarked_empty, unmarked_rest}
use Rattle.ps_rows.proofs.row_board.RowBoard.rests.Goals as goal

pub returns : goal.returns
returns g c = λ told.
    let b = c.args.self.now in
    let p = b.planes in
    let first : ℕ = length b.members.table.items in
    let whole : length p.words.items ≤ p.index.len * p.height = omega (arith, p.whole, p.words.ok.0) in
    unmarked_empty p.height first p.index.len p.words.items p.some_row whole
    (unmarked_rest p.index.len p.height first p.words.items p.index.items p.rows p.marked
    (λ plane row from less low.
    c.rows_from.ensures plane row (omega (arith, from, c.count.ensures.value)) less low
    (none_in c.rows_from.result row (c.is_empty.ensures.none told) low)))
