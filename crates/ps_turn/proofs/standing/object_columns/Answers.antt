use Rattle.std.proofs.Common.{◌≡◌, ◌∙◌, ◌+◌, ◌*◌, ◌<◌, ◌≤◌, ◌||◌, ℕ, Bool, false, List, sym, subst, ap, arith}
use Rattle.std.specs.List.{list_any}
use Rattle.ps_model.specs.declared.limits.TheConstants.{SIDE_LIMIT}
use Rattle.ps_model.specs.board.Grid.{Grid, IsGrid, cell_at}
use Rattle.ps_model.specs.meaning.Compiled.{slot_holds}
use Rattle.ps_board.specs.ColumnSets.{column_at}
use Rattle.ps_board.proofs.CellLaws.{column_at-none, row_more, row_whole}
use Rattle.ps_board.proofs.Taken.{AreBelow}
use Rattle.ps_turn.proofs.RowsOfCells.{is_where, known-within}
use Rattle.ps_turn.proofs.WhereObjectsStand.{layer_below}
use Rattle.ps_turn.proofs.standing.object_columns.Goals as goal

pub loop-layer-init : goal.loop-layer-init
loop-layer-init g c =
    let grid : Grid = g.B.Board.grid c.args.board.now in
    let shape : IsGrid grid = c.recall_shape.ensures.shape in
    let none : (x : ℕ) → x < SIDE_LIMIT → column_at c.none-holding.result x ≡ false =
    λ (x : ℕ) (low : x < SIDE_LIMIT).
    ap (λ (columns : List Bool). column_at columns x) c.none-holding.ensures ∙ column_at-none x low in
    record {
      here = λ x across. none x (omega (arith, across, shape.columns));
      below = record { at = λ x low far. none x low };
      set = is_where c.none-holding.result (λ x. false) c.none-holding.ensures;
    }

pub loop-layer-preserved : goal.loop-layer-preserved
loop-layer-preserved g c =
    let grid : Grid = g.B.Board.grid c.args.board.now in
    let shape : IsGrid grid = c.recall_shape.ensures.shape in
    let was : List Bool = c.loop-layer.holding in
    let more : List Bool = c.holders.result in
    let inv = c.loop-layer.invariant in
    let low : c.loop-layer.layer < grid.layers = rw (← c.layers-layer-end.ensures) c.loop-layer-test.true in
    record {
      here = λ x across. ap (λ (columns : List Bool). column_at columns x) c.either-holding.ensures
          ∙ row_more (slot_holds c.args.object) grid shape x c.args.row c.loop-layer.layer was more across
          c.requires low (inv.here x across) c.holders.ensures;
      below = subst (AreBelow grid.width) (sym c.either-holding.ensures)
          (layer_below c.args.object grid c.loop-layer.layer c.args.row was more shape c.holders.ensures
          inv.below);
      set = is_where c.either-holding.result (λ x. column_at was x || column_at more x) c.either-holding.ensures;
    }

pub returns : goal.returns
returns g c =
    let grid : Grid = g.B.Board.grid c.args.board.now in
    let shape : IsGrid grid = c.recall_shape.ensures.shape in
    let inv = c.loop-layer.invariant in
    let all : grid.layers ≤ c.loop-layer.layer = rw (← c.layers-layer-end.ensures) c.loop-layer-test.false in
    known-within grid.width c.loop-layer.holding
    (λ x. list_any (slot_holds c.args.object) (cell_at grid (x * grid.height + c.args.row)))
    inv.set inv.below
    (λ x across. inv.here x across ∙ row_whole (slot_holds c.args.object) grid shape x c.args.row
    c.loop-layer.layer across c.requires all)
