use Rattle.std.proofs.Common.{◌≡◌, ◌∙◌, ◌++◌, [], ◌∷◌, ℕ, List, ap, ap₂, map, sym, arith}
use Rattle.std.proofs.lemmas.List.FromFn.{map-range_with_len_more}
use Rattle.std.specs.List.{range_with_len}
use Rattle.ps_model.specs.session.Frames.{frame_row}
use Rattle.ps_screen.proofs.KeptRows.{rows_drawn}
use Rattle.ps_screen.proofs.rows.draw_rows.Goals as goal

pub loop-row-preserved : goal.loop-row-preserved
loop-row-preserved g c =
    let grid = g.B.Board.grid c.args.board.now in
    let row : ℕ = c.loop-row.row in
    c.in_ok-push.ensures.items
    ∙ ap₂ (λ (texts : List (List ℕ)) (text : List ℕ). texts ++ text ∷ []) c.loop-row.invariant c.in_ok-draw_row.ensures
    ∙ sym (map-range_with_len_more (frame_row c.args.look.now grid) 0 row row (omega arith))

pub returns : goal.returns
returns g c =
    let grid = g.B.Board.grid c.args.board.now in
    let all : c.loop-row.row ≡ grid.height = omega
    (arith, c.loop-row.auto.row-end, c.loop-row-test.false, c.size-height.ensures.height) in
    rows_drawn c.args.look.now grid c.loop-row.texts.items (c.loop-row.invariant
    ∙ ap (λ (n : ℕ). map (frame_row c.args.look.now grid) (range_with_len 0 n)) all)
