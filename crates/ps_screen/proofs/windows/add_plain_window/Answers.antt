use Rattle.std.proofs.Common.{◌+◌, ◌<◌, ℕ, refl, arith}
use Rattle.ps_model.specs.session.Rooms.{window_row}
use Rattle.ps_screen.proofs.Painting.{text_more_from}
use Rattle.ps_screen.proofs.windows.add_plain_window.Goals as goal

pub add_plain_part-requires-clause-text : goal.add_plain_part-requires-clause-text
add_plain_part-requires-clause-text g c =
    let grid = g.B.Board.grid c.args.board.now in
    let row : ℕ = c.args.window.first_row + c.loop-step.step in
    let under : row < grid.height = omega (arith, c.loop-step-test.true, c.requires.window.rows) in
    rw (c.bytes-in-loop-step.ensures, c.size-width.ensures.width) (c.requires.text.each row under)

pub loop-step-preserved : goal.loop-step-preserved
loop-step-preserved g c =
    let grid = g.B.Board.grid c.args.board.now in
    let row : ℕ = c.args.window.first_row + c.loop-step.step in
    text_more_from (window_row c.args.look.now grid c.args.window) c.args.window.first_row c.loop-step.step row
    c.args.output.now c.loop-step.output _ refl c.loop-step.invariant c.in_ok-add_plain_part.ensures.added
