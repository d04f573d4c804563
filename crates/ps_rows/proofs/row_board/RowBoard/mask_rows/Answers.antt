use Rattle.std.proofs.Common.{Bool, List, length, refl, replicate, subst}
use Rattle.ps_model.specs.declared.compiled.LayeredObject.{LayeredObject}
use Rattle.ps_model.specs.board.Grid.{Grid}
use Rattle.ps_program.specs.ProgramShown.{mask_shown}
use Rattle.ps_rows.specs.Showing.{grid_shown}
use Rattle.ps_rows.specs.RowTests.{held_all}
use Rattle.ps_rows.specs.RowsKept.{AreKept, are_away}
use Rattle.ps_rows.proofs.RowsKept.{rows_free, rows_narrowed}
use Rattle.ps_rows.proofs.row_board.RowBoard.mask_rows.Goals as goal

pub returns-then-asks_no_more-clause-found : goal.returns-then-asks_no_more-clause-found
returns-then-asks_no_more-clause-found g c =
    let b = c.args.self.now in
    let grid : Grid = grid_shown b.members.table.items b.width b.planes.height b.layers b.planes.words.items in
    let filled : List (List Bool) = replicate (length c.args.found.now) b.all_columns in
    let All : List LayeredObject → Type 0 = λ xs. AreKept grid c.args.first filled c.start_all.new.found (held_all xs)
    in
    let Away : List LayeredObject → Type 0 = λ xs. AreKept grid c.args.first c.start_all.new.found c.keep_none.new.found
    (are_away xs) in
    rows_free b.members.table.items b.width b.planes.height b.layers b.planes.words.items c.args.first
    b.all_columns (length c.args.found.now) (mask_shown c.args.mask.now) filled c.start_all.new.found
    c.keep_none.new.found b.columns b.all c.requires refl
    (subst All c.as_slice-2.ensures c.start_all.ensures) (subst Away c.as_slice-3.ensures c.keep_none.ensures)
    (c.asks_no_more.ensures.lists c.if-asks_no_more.true) (c.asks_no_more.ensures.motions c.if-asks_no_more.true)

pub returns-clause-found : goal.returns-clause-found
returns-clause-found g c =
    let b = c.args.self.now in
    let grid : Grid = grid_shown b.members.table.items b.width b.planes.height b.layers b.planes.words.items in
    let filled : List (List Bool) = replicate (length c.args.found.now) b.all_columns in
    let All : List LayeredObject → Type 0 = λ xs. AreKept grid c.args.first filled c.start_all.new.found (held_all xs)
    in
    let Away : List LayeredObject → Type 0 = λ xs. AreKept grid c.args.first c.start_all.new.found c.keep_none.new.found
    (are_away xs) in
    rows_narrowed b.members.table.items b.width b.planes.height b.layers b.planes.words.items c.args.first
    b.all_columns (length c.args.found.now) (mask_shown c.args.mask.now) filled c.start_all.new.found
    c.keep_none.new.found b.columns b.all c.requires refl c.keep_narrowed.new.found
    (subst All c.as_slice-2.ensures c.start_all.ensures) (subst Away c.as_slice-3.ensures c.keep_none.ensures)
    c.keep_narrowed.ensures
