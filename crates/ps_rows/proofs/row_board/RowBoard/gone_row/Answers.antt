use Rattle.std.proofs.Common.{◌<◌, ◌≤◌, List, length, subst, arith}
use Rattle.std.proofs.lemmas.List.{take_all}
use Rattle.ps_model.specs.declared.compiled.LayeredObject.{LayeredObject}
use Rattle.ps_rows.specs.Showing.{grid_shown}
use Rattle.ps_rows.specs.RowTests.{IsRowOf}
use Rattle.ps_rows.specs.SlotsWritten.{goes_from, one_goes}
use Rattle.ps_rows.proofs.Scans.{any_none, any_more}
use Rattle.ps_rows.proofs.row_board.RowBoard.gone_row.Goals as goal

pub loop-each-init : goal.loop-each-init
loop-each-init g c =
    let b = c.args.self.now in
    rw c.none-word.ensures
    (any_none (grid_shown b.members.table.items b.width b.planes.height b.layers b.planes.words.items) c.args.row
    (goes_from c.args.layer) b.columns)

pub loop-each-preserved : goal.loop-each-preserved
loop-each-preserved g c =
    let b = c.args.self.now in
    let below : c.loop-each.each-index < length c.args.gone.now = omega arith in
    rw c.either-word.ensures
    (any_more (grid_shown b.members.table.items b.width b.planes.height b.layers b.planes.words.items) c.args.row
    (goes_from c.args.layer) b.columns c.args.gone.now c.loop-each.each-index _
    c.loop-each.word c.going_row.result below c.loop-each.invariant c.going_row.ensures)

pub returns : goal.returns
returns g c =
    let b = c.args.self.now in
    let end : length c.args.gone.now ≤ c.loop-each.each-index = omega arith in
    let P : List LayeredObject → Type 0 =
    λ xs. IsRowOf (grid_shown b.members.table.items b.width b.planes.height b.layers b.planes.words.items) c.args.row
    c.loop-each.word (one_goes xs c.args.layer) in
    subst P (take_all c.loop-each.each-index c.args.gone.now end) c.loop-each.invariant
