use Rattle.std.proofs.Common.{◌∙◌, ◌+◌, ◌<◌, ℕ, [], length, refl, arith}
use Rattle.std.proofs.lemmas.List.{get_or_default}
use Rattle.ps_model.specs.session.Rooms.{window_row}
use Rattle.ps_screen.proofs.Painting.{text_more_from}
use Rattle.ps_screen.proofs.windows.add_window_of_rows.Goals as goal

pub bounds-texts-row : goal.bounds-texts-row
bounds-texts-row g c = omega (arith, c.loop-step-test.true, c.requires.window.rows, c.requires.texts.long)

pub add_part-requires-clause-text : goal.add_part-requires-clause-text
add_part-requires-clause-text g c =
    let grid = g.B.Board.grid c.args.board.now in
    let row : ℕ = c.args.window.first_row + c.loop-step.step in
    let under : row < grid.height = omega (arith, c.loop-step-test.true, c.requires.window.rows) in
    let inside : row < length c.args.texts.now = omega (arith, under, c.requires.texts.long) in
    c.index-texts-row.is ∙ get_or_default c.args.texts.now row c.index-texts-row.result [] inside
    ∙ c.requires.texts.each row under

pub loop-step-preserved : goal.loop-step-preserved
loop-step-preserved g c =
    let grid = g.B.Board.grid c.args.board.now in
    let row : ℕ = c.args.window.first_row + c.loop-step.step in
    text_more_from (window_row c.args.look.now grid c.args.window) c.args.window.first_row c.loop-step.step row
    c.args.output.now c.loop-step.output _ refl c.loop-step.invariant c.in_ok-add_part.ensures.added
