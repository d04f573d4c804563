use Rattle.std.proofs.Common.{◌≡◌, ◌+◌, ◌*◌, ◌≤◌, ℕ, length, arith}
use Rattle.std.specs.List.{list_any}
use Rattle.std.specs.Prelude.{nat_eq, true}
use Rattle.ps_rows.specs.Showing.{motion_planes, motions_from}
use Rattle.ps_rows.proofs.Alike.{five_in}
use Rattle.ps_rows.proofs.PlaneCopies.{behind_plane}
use Rattle.ps_rows.proofs.Unmarked.{none_moving_on}
use Rattle.ps_rows.proofs.row_board.RowBoardBoard.rows_moving_on.Goals as goal

pub returns-then-not-self : goal.returns-then-not-self
returns-then-not-self g c = λ row under none.
    let b = c.args.self.now in
    none_moving_on b.members.table.items b.width b.planes.height b.layers b.planes.words.items row b.planes.some_row
    b.columns under c.args.layer.0 b.motions c.requires
    (λ plane from below.
    let above : length b.members.table.items ≤ plane = omega (arith, from) in
    let past = behind_plane b.planes.height (length b.members.table.items) plane above in
    b.rest c.if-not-self.true (plane * b.planes.height + row) (omega (arith, past)))

pub returns : goal.returns
returns g c = λ row under none.
    let b = c.args.self.now in
    let first : ℕ = motions_from b.members.table.items c.args.layer.0 in
    none_moving_on b.members.table.items b.width b.planes.height b.layers b.planes.words.items row b.planes.some_row
    b.columns under c.args.layer.0 b.motions c.requires
    (λ plane from below.
    let listed : list_any (nat_eq plane) (motion_planes c.motions_from.result) ≡ true =
    rw c.motions_from.ensures.first (five_in first plane from below) in
    c.five_rows_of.ensures plane row listed under none)
