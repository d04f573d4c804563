use Rattle.std.proofs.Common.{Bool, List, length, refl, replicate, subst}
use Rattle.ps_model.specs.declared.compiled.LayeredObject.{LayeredObject}
use Rattle.ps_model.specs.declared.compiled.MotionTest.{MotionTest}
use Rattle.ps_model.specs.board.Grid.{Grid}
use Rattle.ps_program.specs.ProgramShown.{mask_shown}
use Rattle.ps_rows.specs.Showing.{grid_shown}
use Rattle.ps_rows.specs.RowTests.{held_of_each, moved_all}
use Rattle.ps_rows.specs.RowsKept.{AreKept, are_away}
use Rattle.ps_rows.proofs.RowsKept.{rows_listed}
use Rattle.ps_rows.proofs.row_board.RowBoard.rows_by_lists.Goals as goal

pub returns-clause-found : goal.returns-clause-found
returns-clause-found g c =
    let b = c.args.self.now in
    let grid : Grid = grid_shown b.members.table.items b.width b.planes.height b.layers b.planes.words.items in
    let filled : List (List Bool) = replicate (length c.args.found.now) b.all_columns in
    let listed : List (List Bool) = c.start_listed.new.found in
    let free : List (List Bool) = c.keep_none.new.found in
    let Each : List (List LayeredObject) → Type 0 =
    λ xs. AreKept grid c.args.first filled listed (held_of_each xs) in
    let Away : List LayeredObject → Type 0 = λ xs. AreKept grid c.args.first listed free (are_away xs) in
    let Moved : List MotionTest → Type 0 =
    λ xs. AreKept grid c.args.first free c.keep_moving.new.found (moved_all xs) in
    rows_listed b.members.table.items b.width b.planes.height b.layers b.planes.words.items c.args.first
    b.all_columns (length c.args.found.now) (mask_shown c.args.mask.now) filled listed free b.columns b.all
    c.requires.rows refl c.keep_moving.new.found (subst Each c.as_slice.ensures c.start_listed.ensures)
    (subst Away c.as_slice-2.ensures c.keep_none.ensures) (subst Moved c.as_slice-3.ensures c.keep_moving.ensures)
    c.requires.needed
