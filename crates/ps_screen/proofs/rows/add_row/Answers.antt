use Rattle.std.proofs.Common.{◌∙◌, ◌++◌, ◌+◌, ◌*◌, ℕ, ap}
use Rattle.std.specs.Prelude.{encode_utf8}
use Rattle.ps_model.specs.board.Grid.{cell_at}
use Rattle.ps_model.specs.session.Frames.{shown_character}
use Rattle.ps_screen.proofs.Painting.{text_more}
use Rattle.ps_screen.proofs.rows.add_row.Goals as goal

pub loop-column-preserved : goal.loop-column-preserved
loop-column-preserved g c =
    let shown = c.in_ok-character.ensures ∙ ap (λ (h : ℕ).
    shown_character c.args.look.now (cell_at (g.B.Board.grid c.args.board.now)
    (c.loop-column.column * h + c.args.row))) c.size-width.ensures.height in
    text_more _ c.loop-column.column c.args.output.now c.loop-column.output _ c.loop-column.invariant
    (c.in_ok-add_character.ensures.added ∙ ap (λ (character : ℕ).
    c.loop-column.output ++ encode_utf8 character) shown)
