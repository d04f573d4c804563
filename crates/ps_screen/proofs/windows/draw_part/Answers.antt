use Rattle.std.proofs.Common.{◌∙◌, ◌++◌, ◌+◌, ◌*◌, ◌<◌, ℕ, refl, ap, arith}
use Rattle.std.proofs.lemmas.Nat.{mul-add-lt}
use Rattle.std.specs.Prelude.{encode_utf8}
use Rattle.ps_model.specs.board.Grid.{cell_at}
use Rattle.ps_model.specs.session.Frames.{shown_character}
use Rattle.ps_screen.specs.PlainRows.{column_bytes}
use Rattle.ps_screen.proofs.Painting.{text_more_from}
use Rattle.ps_screen.proofs.windows.draw_part.Goals as goal

pub cell_character-requires-clause-cell : goal.cell_character-requires-clause-cell
cell_character-requires-clause-cell g c =
    let grid = g.B.Board.grid c.args.board.now in
    let column : ℕ = c.args.window.first_column + c.loop-step.step in
    let under : column < grid.width = omega (arith, c.loop-step-test.true, c.requires.window.columns) in
    let place : column * grid.height + c.args.row < grid.height * grid.width =
    mul-add-lt column grid.height c.args.row grid.width under c.requires.row in
    rw c.size-width.ensures.height (omega (arith, place))

pub loop-step-preserved : goal.loop-step-preserved
loop-step-preserved g c =
    let grid = g.B.Board.grid c.args.board.now in
    let column : ℕ = c.args.window.first_column + c.loop-step.step in
    let shown = c.in_ok-character.ensures ∙ ap (λ (h : ℕ).
    shown_character c.args.look.now (cell_at grid (column * h + c.args.row))) c.size-width.ensures.height in
    text_more_from (column_bytes c.args.look.now grid c.args.row) c.args.window.first_column c.loop-step.step column
    c.args.output.now c.loop-step.output _ refl c.loop-step.invariant
    (c.in_ok-add_character.ensures.added ∙ ap (λ (character : ℕ). c.loop-step.output ++ encode_utf8 character) shown)
