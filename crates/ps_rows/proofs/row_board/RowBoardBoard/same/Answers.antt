use Rattle.std.proofs.Common.{◌≡◌, ◌-◌, ◌<◌, ◌≤◌, arith}
use Rattle.std.proofs.lemmas.Option.{same_Some}
use Rattle.ps_rows.proofs.Alike.{board_same, board_other}
use Rattle.ps_rows.specs.Sameness.{IsSameLayer}
use Rattle.ps_rows.proofs.Passed.{layer_below, layers_more}
use Rattle.ps_rows.proofs.row_board.RowBoardBoard.same.Goals as goal

pub returns-then-not-same_layer : goal.returns-then-not-same_layer
returns-then-not-same_layer g c =
    let b = c.args.self.now in
    let o = c.args.other.now in
    let tables : o.members.table.items ≡ b.members.table.items =
    same_Some o.members.table.items b.members.table.items c.requires.table in
    let on : b.layers - 1 - c.loop-step.step < b.layers = omega (arith, c.loop-step-test.true) in
    rw (tables, c.requires.layers, c.requires.height, c.requires.width)
    (board_other b.members.table.items b.width b.planes.height b.layers b.planes.words.items o.planes.words.items
    (b.layers - 1 - c.loop-step.step) c.same_layer.result on c.if-not-same_layer.true c.same_layer.ensures.other)

pub returns : goal.returns
returns g c =
    let b = c.args.self.now in
    let o = c.args.other.now in
    let tables : o.members.table.items ≡ b.members.table.items =
    same_Some o.members.table.items b.members.table.items c.requires.table in
    let end : b.layers ≤ c.loop-step.step = c.loop-step-test.false in
    rw (tables, c.requires.layers, c.requires.height, c.requires.width)
    (board_same b.members.table.items b.width b.planes.height b.layers b.planes.words.items o.planes.words.items
    (λ layer low. c.loop-step.invariant layer low (omega arith)))

pub same_layer-requires : goal.same_layer-requires
same_layer-requires g c =
    record {
      layer = layer_below c.args.self.now.layers c.loop-step.step c.loop-step-test.true;
      width = c.requires.width;
      height = c.requires.height;
      layers = c.requires.layers;
      table = same_Some c.args.other.now.members.table.items c.args.self.now.members.table.items c.requires.table;
    }

pub loop-step-preserved : goal.loop-step-preserved
loop-step-preserved g c =
    let b = c.args.self.now in
    layers_more (IsSameLayer b.members.table.items b.width b.planes.height b.planes.words.items
    c.args.other.now.planes.words.items) b.layers c.loop-step.step c.loop-step.invariant
    (c.same_layer.ensures.same c.if-not-same_layer.false)
