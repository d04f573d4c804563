use Rattle.std.proofs.Common.{List, subst}
use Rattle.ps_model.specs.declared.compiled.LayeredObject.{LayeredObject}
use Rattle.ps_model.specs.declared.compiled.MotionTest.{MotionTest}
use Rattle.ps_model.specs.board.Grid.{Grid}
use Rattle.ps_program.specs.ProgramShown.{mask_shown}
use Rattle.ps_rows.specs.Showing.{grid_shown}
use Rattle.ps_rows.specs.RowTests.{held_of_each, moved_all}
use Rattle.ps_rows.specs.RowsKept.{AreKept}
use Rattle.ps_rows.proofs.RowsKept.{kept_twice}
use Rattle.ps_rows.proofs.row_board.RowBoard.keep_narrowed.Goals as goal

pub returns : goal.returns
returns g c =
    let b = c.args.self.now in
    let grid : Grid = grid_shown b.members.table.items b.width b.planes.height b.layers b.planes.words.items in
    let mask = mask_shown c.args.mask.now in
    let Listed : List (List LayeredObject) → Type 0 = λ xs. AreKept grid c.args.first c.args.found.now
    c.keep_listed.new.found (held_of_each xs) in
    let Moving : List MotionTest → Type 0 = λ xs. AreKept grid c.args.first c.keep_listed.new.found
    c.keep_moving.new.found (moved_all xs) in
    kept_twice grid c.args.first c.args.found.now c.keep_listed.new.found c.keep_moving.new.found
    (held_of_each mask.one_of) (moved_all mask.motions) (subst Listed c.as_slice.ensures c.keep_listed.ensures)
    (subst Moving c.as_slice-2.ensures c.keep_moving.ensures)
