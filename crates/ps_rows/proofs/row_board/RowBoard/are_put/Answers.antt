use Rattle.std.proofs.Common.{◌≡◌, ◌<◌, ◌≤◌, ℕ, true, List, length, subst, arith}
use Rattle.std.specs.Prelude.{All}
use Rattle.std.proofs.lemmas.List.{take_all}
use Rattle.ps_model.specs.declared.compiled.LayerWrite.{LayerWrite}
use Rattle.ps_rows.specs.PutAlready.{IsPutAlready}
use Rattle.ps_rows.specs.Showing.{grid_shown}
use Rattle.ps_rows.specs.SlotsWritten.{in_columns}
use Rattle.ps_rows.proofs.PutAlready.{one_more}
use Rattle.ps_rows.proofs.row_board.RowBoard.are_put.Goals as goal

pub loop-each-preserved : goal.loop-each-preserved
loop-each-preserved g c =
    let b = c.args.self.now in
    let below : c.loop-each.each-index < length c.args.writes.now = omega arith in
    one_more (IsPutAlready (grid_shown b.members.table.items b.width b.planes.height b.layers b.planes.words.items)
    (in_columns b.planes.height c.args.row c.args.columns)) c.args.writes.now c.loop-each.each-index _ below
    c.loop-each.invariant (c.is_put.ensures c.if-not-is_put.false)

pub returns : goal.returns
returns g c = λ so.
    let b = c.args.self.now in
    let end : length c.args.writes.now ≤ c.loop-each.each-index = omega arith in
    let P : List LayerWrite → Type 0 =
    All (IsPutAlready (grid_shown b.members.table.items b.width b.planes.height b.layers b.planes.words.items)
    (in_columns b.planes.height c.args.row c.args.columns)) in
    subst P (take_all c.loop-each.each-index c.args.writes.now end) c.loop-each.invariant
