use Rattle.std.proofs.Common.{◌<◌, ◌≤◌, List, [], length, refl, subst, arith}
use Rattle.std.proofs.lemmas.List.{take_all}
use Rattle.ps_model.specs.declared.compiled.MotionTest.{MotionTest}
use Rattle.ps_model.specs.board.Grid.{Grid}
use Rattle.ps_model.specs.meaning.Compiled.{moves_as_asked}
use Rattle.ps_rows.specs.Showing.{grid_shown}
use Rattle.ps_rows.specs.RowTests.{moved, moved_all}
use Rattle.ps_rows.specs.RowsKept.{IsKept}
use Rattle.ps_rows.proofs.RowsKept.{kept_both, kept_more, kept_whole}
use Rattle.ps_rows.proofs.row_board.RowBoard.moving_of_each.Goals as goal

pub loop-test-init : goal.loop-test-init
loop-test-init g c =
    let b = c.args.self.now in
    kept_whole (grid_shown b.members.table.items b.width b.planes.height b.layers b.planes.words.items) c.args.row
    c.args.columns (moved_all []) (λ cell. refl)

pub loop-test-preserved : goal.loop-test-preserved
loop-test-preserved g c =
    let b = c.args.self.now in
    let grid : Grid = grid_shown b.members.table.items b.width b.planes.height b.layers b.planes.words.items in
    let word = c.loop-test.word in
    let below : c.loop-test.test-index < length c.args.tests.now = omega arith in
    kept_more grid c.args.row moves_as_asked c.args.tests.now c.loop-test.test-index _ c.args.columns word
    c.both-word.result below c.loop-test.invariant
    (kept_both grid c.args.row word (moved _) c.motion_row.result c.both-word.result b.columns c.motion_row.ensures
    c.both-word.ensures)

pub returns : goal.returns
returns g c =
    let b = c.args.self.now in
    let grid : Grid = grid_shown b.members.table.items b.width b.planes.height b.layers b.planes.words.items in
    let end : length c.args.tests.now ≤ c.loop-test.test-index = omega arith in
    let P : List MotionTest → Type 0 = λ xs. IsKept grid c.args.row c.args.columns c.loop-test.word (moved_all xs) in
    subst P (take_all c.loop-test.test-index c.args.tests.now end) c.loop-test.invariant
