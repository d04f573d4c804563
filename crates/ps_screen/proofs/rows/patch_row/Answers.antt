use Rattle.std.proofs.Common.{◌≡◌, ◌∙◌, ℕ, ◌+◌, Bool, List, length, sym, ap, arith}
use Rattle.ps_board.specs.ColumnSets.{both_columns, column_at, columns_below}
use Rattle.ps_screen.proofs.KeptRows.{none_differs, same_frame_row}
use Rattle.ps_screen.proofs.PlainRows.{drawn_but, of_plain, out_of_both, plain_of, within_width}
use Rattle.ps_screen.proofs.rows.patch_row.Goals as goal

pub returns-then-is_empty : goal.returns-then-is_empty
returns-then-is_empty g c =
    let before = g.B.Board.grid c.args.shown.now in
    let after = g.B.Board.grid c.args.board.now in
    let narrow = c.size-width.ensures.shape.columns in
    let made : c.both-differing.result ≡ both_columns c.differing.result (columns_below after.width) =
    c.both-differing.ensures ∙ ap (λ (set : List Bool). both_columns c.differing.result set) (c.below.ensures
    ∙ ap columns_below c.size-width.ensures.width) in
    c.requires.text
    ∙ same_frame_row c.args.look.now after before c.args.row c.requires.width c.requires.height
    (none_differs c.both-differing.result after before c.args.row narrow (c.is_empty.ensures.none c.if-is_empty.true)
    (λ x under none. c.differing.ensures x under
    (out_of_both c.differing.result after.width x (omega (arith, under, narrow)) under
    (ap (λ (set : List Bool). column_at set x) (sym made) ∙ none))))

pub patch_columns-requires-clause-within : goal.patch_columns-requires-clause-within
patch_columns-requires-clause-within g c = λ x low has.
    let after = g.B.Board.grid c.args.board.now in
    let made : c.both-differing.result ≡ both_columns c.differing.result (columns_below after.width) =
    c.both-differing.ensures ∙ ap (λ (set : List Bool). both_columns c.differing.result set) (c.below.ensures
    ∙ ap columns_below c.size-width.ensures.width) in
    within_width c.differing.result after.width x low (ap (λ (set : List Bool). column_at set x) (sym made) ∙ has)

pub patch_columns-requires-clause-drawn : goal.patch_columns-requires-clause-drawn
patch_columns-requires-clause-drawn g c =
    let before = g.B.Board.grid c.args.shown.now in
    let after = g.B.Board.grid c.args.board.now in
    let narrow = c.size-width.ensures.shape.columns in
    let made : c.both-differing.result ≡ both_columns c.differing.result (columns_below after.width) =
    c.both-differing.ensures ∙ ap (λ (set : List Bool). both_columns c.differing.result set) (c.below.ensures
    ∙ ap columns_below c.size-width.ensures.width) in
    let long : length c.args.text.now ≡ before.width + 1 = ap (λ (t : List ℕ). length t) (sym c.bytes.ensures)
    ∙ c.if-bytes-width.false ∙ ap (λ (n : ℕ). n + 1) (c.size-width.ensures.width ∙ sym c.requires.width) in
    drawn_but c.args.look.now after before c.args.row c.both-differing.result 0 c.args.text.now c.requires.width
    c.requires.height
    (λ x under none. c.differing.ensures x under
    (out_of_both c.differing.result after.width x (omega (arith, under, narrow)) under
    (ap (λ (set : List Bool). column_at set x) (sym made) ∙ none)))
    (plain_of c.args.look.now before c.args.row c.args.text.now c.requires.text long)

pub returns-then-plain : goal.returns-then-plain
returns-then-plain g c =
    let after = g.B.Board.grid c.args.board.now in
    let long : length c.args.text.now ≡ after.width + 1 = ap (λ (t : List ℕ). length t) (sym c.bytes.ensures)
    ∙ c.if-bytes-width.false ∙ ap (λ (n : ℕ). n + 1) c.size-width.ensures.width in
    of_plain c.args.look.now after c.args.row c.patch_columns.new.text (c.patch_columns.ensures.long
    ∙ long) (c.in_ok-plain.ensures.plain c.if-plain.true)
