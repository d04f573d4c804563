use Rattle.std.proofs.Common.{◌<◌, ◌≤◌, List, length, subst, arith}
use Rattle.std.proofs.lemmas.List.{take_all}
use Rattle.ps_model.specs.declared.compiled.LayeredObject.{LayeredObject}
use Rattle.ps_model.specs.board.Grid.{Grid}
use Rattle.ps_model.specs.meaning.Compiled.{is_held_in}
use Rattle.ps_rows.specs.Showing.{grid_shown}
use Rattle.ps_rows.specs.RowTests.{IsRowOf, held_all}
use Rattle.ps_rows.proofs.Scans.{all_none, all_more, both_within, full_within}
use Rattle.ps_rows.proofs.row_board.RowBoard.all_row.Goals as goal

pub loop-sought-init : goal.loop-sought-init
loop-sought-init g c =
    let b = c.args.self.now in
    let grid : Grid = grid_shown b.members.table.items b.width b.planes.height b.layers b.planes.words.items in
    record {
      inside = all_none grid c.args.row is_held_in b.columns b.all_columns b.all;
      within = full_within grid b.all_columns b.all;
    }

pub loop-sought-preserved : goal.loop-sought-preserved
loop-sought-preserved g c =
    let b = c.args.self.now in
    let grid : Grid = grid_shown b.members.table.items b.width b.planes.height b.layers b.planes.words.items in
    let below : c.loop-sought.sought-index < length c.args.objects.now = omega arith in
    rw c.both-word.ensures (record {
      inside = all_more grid c.args.row is_held_in b.columns c.args.objects.now c.loop-sought.sought-index _
          c.loop-sought.word c.object_row.result below c.loop-sought.invariant.inside c.object_row.ensures;
      within = both_within grid c.loop-sought.word c.object_row.result c.loop-sought.invariant.within;
    })

pub returns-clause-inside : goal.returns-clause-inside
returns-clause-inside g c =
    let b = c.args.self.now in
    let end : length c.args.objects.now ≤ c.loop-sought.sought-index = omega arith in
    let P : List LayeredObject → Type 0 =
    λ xs. IsRowOf (grid_shown b.members.table.items b.width b.planes.height b.layers b.planes.words.items) c.args.row
    c.loop-sought.word (held_all xs) in
    subst P (take_all c.loop-sought.sought-index c.args.objects.now end) c.loop-sought.invariant.inside
