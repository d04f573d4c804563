use Rattle.std.proofs.Common.{◌∙◌, List, ap}
use Rattle.std.specs.List.{list_any}
use Rattle.ps_model.specs.declared.pieces.ObjectId.{ObjectId}
use Rattle.ps_model.specs.names.Names.{players}
use Rattle.ps_model.specs.board.Grid.{Grid}
use Rattle.ps_model.specs.board.Turns.{has_player}
use Rattle.ps_turn.specs.RowsOfCells.{row_cells}
use Rattle.ps_turn.specs.Sweeps.{holds_any}
use Rattle.ps_turn.proofs.RowsOfCells.{rows_agree, cell_has_any_of}
use Rattle.ps_turn.proofs.players.player_columns.Goals as goal

pub returns : goal.returns
returns g c =
    let grid : Grid = g.B.Board.grid c.args.board.now in
    let objects : List ObjectId = players c.args.game.now.names in
    rows_agree (list_any (holds_any objects)) (has_player c.args.game.now.names) grid c.args.row c.columns_with.result
    (cell_has_any_of objects)
    (c.columns_with.ensures ∙ ap (λ (objects : List ObjectId).
    row_cells (list_any (holds_any objects)) grid c.args.row) c.players.ensures)
