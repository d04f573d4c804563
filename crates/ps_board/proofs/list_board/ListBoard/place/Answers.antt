use Rattle.std.proofs.Common.{◌≡◌, ◌+◌, ◌*◌, arith}
use Rattle.ps_board.proofs.SameRows.{cell_within}
use Rattle.ps_board.proofs.list_board.ListBoard.place.Goals as goal

pub returns-clause-within : goal.returns-clause-within
returns-clause-within c =
    let b = c.args.self.now in
    let first : c.args.cell * b.layers ≡ c.args.cell * b.layers + 0 = omega arith in
    let room = cell_within b.layers (b.width * b.height) c.args.cell (c.args.cell * b.layers) _ b.some_layer
    c.requires.cell first b.whole in
    omega (arith, room, c.requires.layer)
