use Rattle.std.proofs.Common.{◌*◌, ℕ, List, length, subst}
use Rattle.ps_rows.specs.Planes.{AreEmptyFrom}
use Rattle.ps_rows.proofs.PlaneCopies.{both_empty}
use Rattle.ps_rows.proofs.row_board.RowBoard.both_rest.Goals as goal

pub returns : goal.returns
returns g c = λ told.
    let b = c.args.self.now in
    let o = c.args.other.now in
    let E : ℕ → Type 0 = λ start. AreEmptyFrom start o.planes.words.items in
    let F : List ℕ → Type 0 = λ table. E (length table * o.planes.height) in
    let H : ℕ → Type 0 = λ height. E (length b.members.table.items * height) in
    both_empty (length b.members.table.items * b.planes.height) b.planes.words.items o.planes.words.items
    (c.rests.ensures c.if-not-rests.false)
    (subst H c.requires.height (subst F c.requires.table (c.rests-2.ensures told)))
