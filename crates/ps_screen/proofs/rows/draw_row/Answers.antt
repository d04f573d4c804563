use Rattle.std.proofs.Common.{◌≡◌, ◌∙◌, ◌++◌, ℕ, Bool, List, length, sym, ap, ap₂}
use Rattle.std.specs.Prelude.{codes, replicate}
use Rattle.ps_board.specs.ColumnSets.{column_at, columns_below}
use Rattle.ps_screen.proofs.PlainRows.{blank_drawn, blank_long, of_plain, within_below}
use Rattle.ps_screen.proofs.rows.draw_row.Goals as goal

pub patch_columns-requires-clause-within : goal.patch_columns-requires-clause-within
patch_columns-requires-clause-within g c = λ x low has.
    let all : c.below-columns.result ≡ columns_below (g.B.Board.grid c.args.board.now).width = c.below-columns.ensures
    ∙ ap columns_below c.size-width.ensures.width in
    within_below (g.B.Board.grid c.args.board.now).width x low (ap (λ (set : List Bool). column_at set x) (sym all)
    ∙ has)

pub patch_columns-requires-clause-drawn : goal.patch_columns-requires-clause-drawn
patch_columns-requires-clause-drawn g c =
    let grid = g.B.Board.grid c.args.board.now in
    blank_drawn c.args.look.now grid c.args.row c.below-columns.result c.add_blank_row.new.text
    c.size-width.ensures.shape.columns
    (c.below-columns.ensures ∙ ap columns_below c.size-width.ensures.width)
    (c.in_ok-add_blank_row.ensures ∙ ap₂ (λ (t : List ℕ) (n : ℕ).
    t ++ (replicate n 32 ++ codes "\n")) c.clear.ensures c.size-width.ensures.width)

pub returns-then-plain : goal.returns-then-plain
returns-then-plain g c =
    let grid = g.B.Board.grid c.args.board.now in
    let blank : c.add_blank_row.new.text ≡ replicate grid.width 32 ++ codes "\n" =
    c.in_ok-add_blank_row.ensures ∙ ap₂ (λ (t : List ℕ) (n : ℕ).
    t ++ (replicate n 32 ++ codes "\n")) c.clear.ensures c.size-width.ensures.width in
    of_plain c.args.look.now grid c.args.row c.patch_columns.new.text (c.patch_columns.ensures.long
    ∙ ap (λ (t : List ℕ). length t) blank ∙ blank_long grid.width)
    (c.in_ok-plain.ensures.plain c.if-plain.true)
