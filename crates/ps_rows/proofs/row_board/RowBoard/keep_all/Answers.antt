use Rattle.std.proofs.Common.{◌<◌, ◌≤◌, List, [], length, subst, refl, arith}
use Rattle.std.proofs.lemmas.List.{take_all}
use Rattle.ps_model.specs.declared.compiled.LayeredObject.{LayeredObject}
use Rattle.ps_model.specs.meaning.Compiled.{is_held_in}
use Rattle.ps_rows.specs.Showing.{grid_shown}
use Rattle.ps_rows.specs.RowTests.{held_all}
use Rattle.ps_rows.specs.RowsKept.{AreKept}
use Rattle.ps_rows.proofs.RowsKept.{kept_at_first, kept_all_more}
use Rattle.ps_rows.proofs.row_board.RowBoard.keep_all.Goals as goal

pub loop-sought-init : goal.loop-sought-init
loop-sought-init g c =
    let b = c.args.self.now in
    kept_at_first (grid_shown b.members.table.items b.width b.planes.height b.layers b.planes.words.items) c.args.first
    c.args.found.now (held_all []) (λ cell. refl)

pub loop-sought-preserved : goal.loop-sought-preserved
loop-sought-preserved g c =
    let b = c.args.self.now in
    let below : c.loop-sought.sought-index < length c.args.objects.now = omega arith in
    kept_all_more (grid_shown b.members.table.items b.width b.planes.height b.layers b.planes.words.items) c.args.first
    is_held_in c.args.objects.now c.loop-sought.sought-index _ c.args.found.now c.loop-sought.found
    c.keep_held.new.found below c.loop-sought.invariant c.keep_held.ensures

pub returns : goal.returns
returns g c =
    let b = c.args.self.now in
    let end : length c.args.objects.now ≤ c.loop-sought.sought-index = omega arith in
    let P : List LayeredObject → Type 0 =
    λ xs. AreKept (grid_shown b.members.table.items b.width b.planes.height b.layers b.planes.words.items) c.args.first
    c.args.found.now c.loop-sought.found (held_all xs) in
    subst P (take_all c.loop-sought.sought-index c.args.objects.now end) c.loop-sought.invariant
