use Rattle.std.proofs.Common.{◌≡◌, ◌∙◌, ℕ, Option, List, true, rules}
use Rattle.ps_model.specs.board.Grid.{Grid}
use Rattle.ps_places.proofs.OneRow.{among, row_together, row_without}
use Rattle.ps_places.proofs.in_turn.rewrite_fitting.Goals as goal

pub returns-then-is_empty-clause-rewritten : goal.returns-then-is_empty-clause-rewritten
returns-then-is_empty-clause-rewritten g c =
    let grid : Grid = g.B.Board.grid c.args.board.now in
    let table : Option (List ℕ) = g.B.Board.table c.args.board.now in
    let empty : c.is_empty.result ≡ true = search rules in
    row_without grid table c.args.part.now c.args.row c.args.columns c.both-fitting.result
    c.recall_shape.ensures.shape c.requires.whole c.requires.room
    (among grid table c.args.part.now c.args.row c.columns_down.result c.args.columns c.both-fitting.result
    c.columns_down.ensures c.both-fitting.ensures)
    (c.is_empty.ensures.none empty)

pub returns-clause-rewritten : goal.returns-clause-rewritten
returns-clause-rewritten g c =
    let grid : Grid = g.B.Board.grid c.args.board.now in
    let table : Option (List ℕ) = g.B.Board.table c.args.board.now in
    c.rewrite_row.ensures.rewritten
    ∙ row_together grid table c.args.part.now c.args.row c.args.columns c.both-fitting.result
    c.recall_shape.ensures.shape c.requires.whole c.requires.room
    (among grid table c.args.part.now c.args.row c.columns_down.result c.args.columns c.both-fitting.result
    c.columns_down.ensures c.both-fitting.ensures)
