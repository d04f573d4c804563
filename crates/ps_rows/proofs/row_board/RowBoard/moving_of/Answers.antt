use Rattle.std.proofs.Common.{◌≡◌, [], ap, rules}
use Rattle.std.specs.List.{list_all}
use Rattle.std.proofs.lemmas.List.{nil_from_length}
use Rattle.ps_model.specs.board.Grid.{Grid}
use Rattle.ps_model.specs.meaning.Compiled.{moves_as_asked}
use Rattle.ps_rows.specs.Showing.{grid_shown}
use Rattle.ps_rows.specs.RowTests.{moved, moved_all}
use Rattle.ps_rows.proofs.RowsKept.{kept_both, kept_first, kept_whole}
use Rattle.ps_rows.proofs.row_board.RowBoard.moving_of.Goals as goal

pub returns-in_default : goal.returns-in_default
returns-in_default g c =
    let b = c.args.self.now in
    kept_whole (grid_shown b.members.table.items b.width b.planes.height b.layers b.planes.words.items) c.args.row
    c.args.columns (moved_all c.args.tests.now) (λ cell. ap (λ xs. list_all (moves_as_asked cell) xs)
    (nil_from_length c.args.tests.now c.in_default.ensures.cases))

pub returns-then-is_empty : goal.returns-then-is_empty
returns-then-is_empty g c =
    let b = c.args.self.now in
    let grid : Grid = grid_shown b.members.table.items b.width b.planes.height b.layers b.planes.words.items in
    let none : c.in-Some.others.now ≡ [] = nil_from_length c.in-Some.others.now (search rules) in
    kept_first grid c.args.row moves_as_asked c.in-Some.test.now c.in-Some.others.now c.args.tests.now c.args.columns
    c.both-word.result c.both-word.result c.in-Some.ensures.cases.0
    (kept_both grid c.args.row c.args.columns (moved c.in-Some.test.now) c.motion_row.result c.both-word.result
    b.columns c.motion_row.ensures c.both-word.ensures)
    (kept_whole grid c.args.row c.both-word.result (moved_all c.in-Some.others.now)
    (λ cell. ap (λ xs. list_all (moves_as_asked cell) xs) none))

pub returns : goal.returns
returns g c =
    let b = c.args.self.now in
    let grid : Grid = grid_shown b.members.table.items b.width b.planes.height b.layers b.planes.words.items in
    kept_first grid c.args.row moves_as_asked c.in-Some.test.now c.in-Some.others.now c.args.tests.now c.args.columns
    c.both-word.result c.moving_of_each.result c.in-Some.ensures.cases.0
    (kept_both grid c.args.row c.args.columns (moved c.in-Some.test.now) c.motion_row.result c.both-word.result
    b.columns c.motion_row.ensures c.both-word.ensures)
    c.moving_of_each.ensures
