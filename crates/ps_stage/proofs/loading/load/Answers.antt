use Rattle.std.proofs.Common.{◌∙◌, ◌<◌, ◌≤◌, List, [], length, get_or, fold, ap, arith}
use Rattle.std.specs.Prelude.{slice_set}
use Rattle.ps_model.specs.declared.pieces.ObjectId.{ObjectId}
use Rattle.ps_model.specs.declared.pieces.Motion.TheVariants.{Still}
use Rattle.ps_model.specs.declared.pieces.Slot.{Slot}
use Rattle.ps_model.specs.declared.pieces.Slot.TheVariants.{Holds}
use Rattle.ps_model.specs.names.Names.{Names, layer_of}
use Rattle.ps_model.specs.board.Grid.{Grid, cell_at}
use Rattle.ps_model.specs.board.Levels.{Level}
use Rattle.ps_stage.specs.CellsLoaded.{grid_with_cell}
use Rattle.ps_stage.proofs.OwnRooms.{have-own-room}
use Rattle.ps_stage.proofs.PartLoaded.{partly_shape, one_more_loaded, all_loaded, none_loaded}
use Rattle.ps_stage.proofs.loading.load.Goals as goal

pub fill_cell-requires-clause-shape : goal.fill_cell-requires-clause-shape
fill_cell-requires-clause-shape g c =
    let within : c.loop-cell.cell < length c.args.level.now.cells =
    rw (← c.cells-cells.ensures, ← c.len-cell-end.ensures) c.loop-cell-test.true in
    rw c.loop-cell.invariant.loaded (partly_shape c.args.names.now c.args.level.now c.loop-cell.cell
    c.requires.playable (omega arith))

pub loop-cell-preserved : goal.loop-cell-preserved
loop-cell-preserved g c =
    let names : Names = c.args.names.now in
    let level : Level = c.args.level.now in
    let within : c.loop-cell.cell < length level.cells =
    rw (← c.cells-cells.ensures, ← c.len-cell-end.ensures) c.loop-cell-test.true in
    let put = λ (slots : List Slot) (o : ObjectId). slice_set slots (layer_of names o) (Holds o Still) in
    let objects = c.cell.ensures ∙ ap (λ (cells : List (List ObjectId)).
    get_or cells c.loop-cell.cell []) c.cells-cells.ensures in
    record {
      loaded =
          c.fill_cell.ensures.filled
          ∙ ap (λ (os : List ObjectId). grid_with_cell (g.B.Board.grid c.loop-cell.board) c.loop-cell.cell
          (fold put (cell_at (g.B.Board.grid c.loop-cell.board) c.loop-cell.cell) os)) objects
          ∙ ap (λ (h : Grid). grid_with_cell h c.loop-cell.cell
          (fold put (cell_at h c.loop-cell.cell) (get_or level.cells c.loop-cell.cell [])))
          c.loop-cell.invariant.loaded
          ∙ one_more_loaded names level c.loop-cell.cell c.requires.playable within;
      room = rw c.fill_cell.ensures.table c.loop-cell.invariant.room;
      table = c.fill_cell.ensures.table ∙ c.loop-cell.invariant.table;
    }

pub loop-cell-init : goal.loop-cell-init
loop-cell-init g c =
    record {
      loaded = c.in_ok-board.ensures.grid ∙ none_loaded c.args.names.now c.args.level.now _ _ _ c.width.ensures
          c.height.ensures c.layer_count.ensures.count;
      room = have-own-room _ c.own_layers.result.now c.args.names.now c.own_layers.ensures c.in_ok-board.ensures.room;
      table = c.in_ok-board.ensures.table ∙ ap g.B.Board.table_for c.own_layers.ensures;
    }

pub returns-clause-loaded : goal.returns-clause-loaded
returns-clause-loaded g c =
    let all : length c.args.level.now.cells ≤ c.loop-cell.cell =
    rw (← c.cells-cells.ensures, ← c.len-cell-end.ensures) c.loop-cell-test.false in
    c.loop-cell.invariant.loaded ∙ all_loaded c.args.names.now c.args.level.now c.loop-cell.cell c.requires.playable all

pub returns-clause-table : goal.returns-clause-table
returns-clause-table g c = c.loop-cell.invariant.table
