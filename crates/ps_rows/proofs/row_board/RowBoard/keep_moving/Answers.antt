use Rattle.std.proofs.Common.{◌<◌, ◌≤◌, List, [], length, subst, refl, arith}
use Rattle.std.proofs.lemmas.List.{take_all}
use Rattle.ps_model.specs.declared.compiled.MotionTest.{MotionTest}
use Rattle.ps_model.specs.meaning.Compiled.{moves_as_asked}
use Rattle.ps_rows.specs.Showing.{grid_shown}
use Rattle.ps_rows.specs.RowTests.{moved_all}
use Rattle.ps_rows.specs.RowsKept.{AreKept}
use Rattle.ps_rows.proofs.RowsKept.{kept_at_first, kept_all_more}
use Rattle.ps_rows.proofs.row_board.RowBoard.keep_moving.Goals as goal

pub loop-test-init : goal.loop-test-init
loop-test-init g c =
    let b = c.args.self.now in
    kept_at_first (grid_shown b.members.table.items b.width b.planes.height b.layers b.planes.words.items) c.args.first
    c.args.found.now (moved_all []) (λ cell. refl)

pub loop-test-preserved : goal.loop-test-preserved
loop-test-preserved g c =
    let b = c.args.self.now in
    let below : c.loop-test.test-index < length c.args.tests.now = omega arith in
    kept_all_more (grid_shown b.members.table.items b.width b.planes.height b.layers b.planes.words.items) c.args.first
    moves_as_asked c.args.tests.now c.loop-test.test-index _ c.args.found.now c.loop-test.found
    c.keep_moved.new.found below c.loop-test.invariant c.keep_moved.ensures

pub returns : goal.returns
returns g c =
    let b = c.args.self.now in
    let end : length c.args.tests.now ≤ c.loop-test.test-index = omega arith in
    let P : List MotionTest → Type 0 =
    λ xs. AreKept (grid_shown b.members.table.items b.width b.planes.height b.layers b.planes.words.items) c.args.first
    c.args.found.now c.loop-test.found (moved_all xs) in
    subst P (take_all c.loop-test.test-index c.args.tests.now end) c.loop-test.invariant
