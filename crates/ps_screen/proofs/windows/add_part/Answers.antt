use Rattle.std.proofs.Common.{◌≡◌, ◌∙◌, ◌+◌, ℕ, List, length, sym, ap}
use Rattle.ps_screen.proofs.PlainRows.{plain_of}
use Rattle.ps_screen.proofs.windows.add_part.Goals as goal

pub add_plain_part-requires-clause-text : goal.add_plain_part-requires-clause-text
add_plain_part-requires-clause-text g c =
    let grid = g.B.Board.grid c.args.board.now in
    let long : length c.args.text.now ≡ grid.width + 1 =
    ap (λ (t : List ℕ). length t) (sym c.bytes-bytes.ensures) ∙ c.if-bytes-width.true
    ∙ ap (λ (n : ℕ). n + 1) c.size-width.ensures.width in
    rw c.bytes-bytes.ensures (plain_of c.args.look.now grid c.args.row c.args.text.now c.requires.text long)
