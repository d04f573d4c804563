use Rattle.std.proofs.Common.{◌≡◌, ◌*◌, ◌∙◌, [], sym, arith, rules}
use Rattle.ps_board.proofs.SameRows.{cell_within, chunk_at}
use Rattle.ps_board.proofs.list_board.ListBoard.cell_slots.Goals as goal

pub stretch-requires : goal.stretch-requires
stretch-requires c =
    let b = c.args.self.now in
    cell_within b.layers (b.width * b.height) c.args.cell c.place-start.result _ b.some_layer c.requires
    c.place-start.ensures.place (search rules)

pub returns-clause-cell : goal.returns-clause-cell
returns-clause-cell c =
    let b = c.args.self.now in
    let start : c.place-start.result ≡ c.args.cell * b.layers = omega (arith, c.place-start.ensures.place) in
    c.stretch.ensures.stretch
    ∙ rw (c.as_slice.ensures.value, start) (sym
    (chunk_at b.layers (b.width * b.height) c.args.cell b.slots.items [] c.requires))
