use Rattle.std.proofs.Common.{◌<◌, ◌≤◌, List, length, subst, arith}
use Rattle.std.proofs.lemmas.List.{take_all}
use Rattle.ps_model.specs.declared.compiled.LayeredObject.{LayeredObject}
use Rattle.ps_model.specs.meaning.Compiled.{is_held_in}
use Rattle.ps_rows.specs.Showing.{grid_shown}
use Rattle.ps_rows.specs.RowTests.{IsRowOf, held_any}
use Rattle.ps_rows.proofs.Scans.{any_none, any_more}
use Rattle.ps_rows.proofs.row_board.RowBoard.any_row.Goals as goal

pub loop-sought-init : goal.loop-sought-init
loop-sought-init g c =
    let b = c.args.self.now in
    rw c.none-word.ensures
    (any_none (grid_shown b.members.table.items b.width b.planes.height b.layers b.planes.words.items) c.args.row
    is_held_in b.columns)

pub loop-sought-preserved : goal.loop-sought-preserved
loop-sought-preserved g c =
    let b = c.args.self.now in
    let below : c.loop-sought.sought-index < length c.args.objects.now = omega arith in
    rw c.either-word.ensures
    (any_more (grid_shown b.members.table.items b.width b.planes.height b.layers b.planes.words.items) c.args.row
    is_held_in b.columns c.args.objects.now c.loop-sought.sought-index _
    c.loop-sought.word c.marked_row.result below c.loop-sought.invariant c.marked_row.ensures)

pub returns : goal.returns
returns g c =
    let b = c.args.self.now in
    let end : length c.args.objects.now ≤ c.loop-sought.sought-index = omega arith in
    let P : List LayeredObject → Type 0 =
    λ xs. IsRowOf (grid_shown b.members.table.items b.width b.planes.height b.layers b.planes.words.items) c.args.row
    c.loop-sought.word (held_any xs) in
    subst P (take_all c.loop-sought.sought-index c.args.objects.now end) c.loop-sought.invariant
