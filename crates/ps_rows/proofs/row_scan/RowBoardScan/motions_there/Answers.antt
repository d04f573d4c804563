use Rattle.std.proofs.Common.{◌<◌, ◌+◌, ℕ, refl, subst, sym, arith}
use Rattle.ps_model.specs.board.Grid.{Grid}
use Rattle.ps_rows.specs.Showing.{grid_shown}
use Rattle.ps_rows.proofs.LayerMotions.{HasMotionsBelow, all_told, layer_passed, layer_told, none_below}
use Rattle.ps_rows.proofs.Marked.{planes_indexed}
use Rattle.ps_rows.proofs.row_scan.RowBoardScan.motions_there.Goals as goal
use Rattle.ps_rows.proofs.row_scan.RowBoardScan.motions_there.Goals.{then-not-is_empty, else-not-is_empty}

pub loop-layer-init : goal.loop-layer-init
loop-layer-init g c =
    let b = c.args.self.now in
    none_below (grid_shown b.members.table.items b.width b.planes.height b.layers b.planes.words.items)
    c.none-motions.result

pub loop-layer-preserved : goal.loop-layer-preserved
loop-layer-preserved g c =
    let b = c.args.self.now in
    let start : Grid = grid_shown b.members.table.items b.width b.planes.height b.layers b.planes.words.items in
    let layer : ℕ = c.loop-layer.layer in
    elim c.if-not-is_empty.branch [
      | then-not-is_empty w ↦
          let counted = planes_indexed b.members.table.items b.layers b.planes.height b.planes.words.len
          b.planes.index.len b.planes.some_row b.planes.whole b.whole in
          let on : layer < b.layers =
          omega (arith, c.loop-layer-test.true, c.layers-layer-end.ensures) in
          subst (HasMotionsBelow start (layer + 1)) (sym w.motions-is)
          (layer_told b.members.table.items b.width b.planes.height b.layers b.planes.words.items b.planes.some_row
          b.columns b.planes.rows b.motions b.planes.index.items b.planes.index.len layer (layer + 1)
          c.loop-layer.motions w.with_motions_of-motions.result counted b.planes.marked on refl
          w.with_motions_of-motions.ensures c.loop-layer.invariant)
      | else-not-is_empty w ↦
          subst (HasMotionsBelow start (layer + 1)) (sym w.motions-is)
          (layer_passed start layer (layer + 1) c.rows_moving_on.result c.loop-layer.motions b.planes.rows refl
          c.rows_moving_on.ensures (c.is_empty.ensures.none w.if-not-is_empty.false) c.loop-layer.invariant)
    ]

pub returns : goal.returns
returns g c =
    let b = c.args.self.now in
    let end : ℕ = c.loop-layer.layer in
    all_told b.members.table.items b.width b.planes.height b.layers b.planes.words.items b.planes.some_row b.columns
    b.planes.rows b.motions end c.loop-layer.motions
    (omega (arith, c.loop-layer-test.false, c.layers-layer-end.ensures)) c.loop-layer.invariant
