use Rattle.std.proofs.Common.{◌&&◌, List, subst, sym, ap}
use Rattle.ps_model.specs.declared.compiled.LayeredObject.{LayeredObject}
use Rattle.ps_model.specs.declared.compiled.MotionTest.{MotionTest}
use Rattle.ps_program.specs.ProgramShown.{mask_shown}
use Rattle.ps_model.specs.board.Grid.{Grid}
use Rattle.ps_rows.specs.Showing.{grid_shown}
use Rattle.ps_rows.specs.RowTests.{held_of_each, moved_all, narrowed}
use Rattle.ps_rows.specs.RowsKept.{IsKept}
use Rattle.ps_rows.proofs.RowsKept.{kept_as}
use Rattle.ps_rows.proofs.row_board.RowBoard.moving_as_asked.Goals as goal

pub returns : goal.returns
returns g c =
    let b = c.args.self.now in
    let grid : Grid = grid_shown b.members.table.items b.width b.planes.height b.layers b.planes.words.items in
    let mask = mask_shown c.args.mask.now in
    let Moving : List MotionTest → Type 0 = λ xs. IsKept grid c.args.row c.args.columns c.moving_of.result
    (moved_all xs) in
    kept_as grid c.args.row c.args.columns (moved_all mask.motions) c.moving_of.result (narrowed mask)
    (λ cell. sym (ap (λ (lists : List (List LayeredObject)). held_of_each lists cell && moved_all mask.motions cell)
    c.requires.lists))
    (subst Moving c.as_slice.ensures c.moving_of.ensures)
