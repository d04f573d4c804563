use Rattle.std.proofs.Common.{◌+◌, ◌*◌, ◌<◌, length, arith}
use Rattle.ps_rows.proofs.Marked.{planes_indexed}
use Rattle.ps_rows.proofs.PlaneCopies.{behind_plane}
use Rattle.ps_rows.proofs.Unmarked.{none_moving}
use Rattle.ps_model.specs.declared.limits.TheConstants.{SIDE_LIMIT}
use Rattle.ps_rows.proofs.row_board.RowBoardBoard.rows_moving_any.Goals as goal

pub returns-then-not-self : goal.returns-then-not-self
returns-then-not-self g c = λ row under none.
    let b = c.args.self.now in
    none_moving b.members.table.items b.width b.planes.height b.layers b.planes.words.items row b.planes.some_row
    b.columns under b.motions
    (λ plane above below.
    let past = behind_plane b.planes.height (length b.members.table.items) plane above in
    b.rest c.if-not-self.true (plane * b.planes.height + row) (omega (arith, past)))

pub returns : goal.returns
returns g c = λ row under none.
    let b = c.args.self.now in
    let counted = planes_indexed b.members.table.items b.layers b.planes.height b.planes.words.len b.planes.index.len
    b.planes.some_row b.planes.whole b.whole in
    let low : row < SIDE_LIMIT = omega (arith, under, b.planes.rows) in
    none_moving b.members.table.items b.width b.planes.height b.layers b.planes.words.items row b.planes.some_row
    b.columns under b.motions
    (λ plane above below. b.planes.marked plane row (omega arith) under
    (c.rows_from.ensures plane row (omega (arith, above, c.count.ensures)) (omega arith) low none))
