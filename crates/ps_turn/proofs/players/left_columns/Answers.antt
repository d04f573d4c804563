use Rattle.std.proofs.Common.{◌∙◌}
use Rattle.ps_model.specs.board.Grid.{Grid}
use Rattle.ps_turn.proofs.Stayed.{rows_left}
use Rattle.ps_turn.proofs.players.left_columns.Goals as goal

pub returns : goal.returns
returns g c =
    let before : Grid = g.B.Board.grid c.args.before.now in
    let after : Grid = g.B.Board.grid c.args.after.now in
    c.without.ensures
    ∙ rows_left c.args.game.now.names before after c.args.row c.player_columns-standing.result
    c.player_columns-staying.result c.requires.sides c.player_columns-standing.ensures
    c.player_columns-staying.ensures
