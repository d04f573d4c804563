use Rattle.std.proofs.Common.{◌≡◌, ◌∙◌, ◌++◌, List, ap, refl, arith, append_assoc, length, map, ◌<◌, ◌≤◌}
use Rattle.std.proofs.lemmas.List.{take_all}
use Rattle.ps_model.specs.declared.pieces.Slot.{Slot}
use Rattle.ps_model.specs.board.Grid.{Grid, cell_at}
use Rattle.lizhakoven.specs.Places.{slot_number}
use Rattle.lizhakoven.proofs.ToldCells.{numbers_more}
use Rattle.lizhakoven.proofs.cells.add_cell.Goals as goal

pub loop-layer-preserved : goal.loop-layer-preserved
loop-layer-preserved g c =
    let shown : Grid = g.B.Board.grid c.args.board.now in
    let within : c.args.cell < length shown.cells = rw c.requires.shape.cells c.requires.cell in
    let slots : length (cell_at shown c.args.cell) ≡ shown.layers = c.requires.shape.slots c.args.cell _ within in
    let long : c.loop-layer.layer < length (cell_at shown c.args.cell) = rw slots (omega arith) in
    rw (
      c.in_ok-push.ensures.items,
      c.loop-layer.invariant,
      c.number_of.ensures,
      c.object.ensures.value,
      numbers_more (cell_at shown c.args.cell) c.loop-layer.layer long,
      append_assoc,
    ) refl

pub returns : goal.returns
returns g c =
    let shown : Grid = g.B.Board.grid c.args.board.now in
    let within : c.args.cell < length shown.cells = rw c.requires.shape.cells c.requires.cell in
    let slots : length (cell_at shown c.args.cell) ≡ shown.layers = c.requires.shape.slots c.args.cell _ within in
    let all : length (cell_at shown c.args.cell) ≤ c.loop-layer.layer = rw slots (omega arith) in
    c.loop-layer.invariant ∙ ap (λ (front : List Slot). c.args.numbers.now.items ++ map slot_number front)
    (take_all c.loop-layer.layer (cell_at shown c.args.cell) all)
