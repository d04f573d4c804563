use Rattle.std.proofs.Common.{◌∙◌}
use Rattle.ps_model.specs.meaning.Compiled.{cell_written}
use Rattle.ps_board.specs.ColumnSets.{columns_ahead}
use Rattle.ps_program.specs.ProgramShown.{write_shown}
use Rattle.ps_match.specs.InRoom.{write_in_room}
use Rattle.ps_match.proofs.RowsAhead.{row-in-room}
use Rattle.ps_match.proofs.rewriting_ahead.rewrite_ahead.Goals as goal

pub returns-clause-rewritten : goal.returns-clause-rewritten
returns-clause-rewritten g c =
    c.rewrite.ensures.rewritten
    ∙ row-in-room (g.B.Board.grid c.args.board.now)
    (cell_written (write_in_room (g.B.Board.table c.args.board.now) (write_shown c.args.write.now))) c.args.row _
    (columns_ahead c.args.columns c.args.steps) c.ahead-ahead.result c.recall_shape.ensures.shape
    c.recall_shape.ensures.narrow c.ahead-ahead.ensures
