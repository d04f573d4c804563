use Rattle.std.proofs.Common.{◌∙◌, List, [], ◌∷◌, sym, ap}
use Rattle.std.specs.List.{list_any}
use Rattle.ps_model.specs.declared.pieces.ObjectId.{ObjectId}
use Rattle.ps_model.specs.board.Grid.{Grid}
use Rattle.ps_model.specs.board.Winning.{is_in}
use Rattle.ps_model.specs.names.Names.{One, AnyOf}
use Rattle.ps_names.specs.declared.meaning.Meaning.{Meaning}
use Rattle.ps_names.specs.Shown.{meaning_shown}
use Rattle.ps_turn.specs.RowsOfCells.{row_cells}
use Rattle.ps_turn.specs.Sweeps.{holds_any}
use Rattle.ps_turn.proofs.RowsOfCells.{rows_agree, cell_has_one, cell_has_some}
use Rattle.ps_turn.proofs.rows.columns_meant.Goals as goal

pub returns-in-One : goal.returns-in-One
returns-in-One g c =
    let grid : Grid = g.B.Board.grid c.args.board.now in
    let object : ObjectId = c.in-One.object in
    rows_agree (list_any (holds_any (object ∷ []))) (is_in (One object)) grid c.args.row c.columns_with.result
    (cell_has_one object)
    (c.columns_with.ensures ∙ ap (λ (objects : List ObjectId).
    row_cells (list_any (holds_any objects)) grid c.args.row) c.from_ref.ensures.value)
    ∙ ap (λ (meaning : Meaning). row_cells (is_in (meaning_shown meaning)) grid c.args.row) (sym c.in-One.is)

pub returns-in-Any : goal.returns-in-Any
returns-in-Any g c =
    let grid : Grid = g.B.Board.grid c.args.board.now in
    let objects : List ObjectId = c.in-Any.objects in
    rows_agree (list_any (holds_any objects)) (is_in (AnyOf c.in-Any.line objects)) grid c.args.row
    c.columns_with-in-Any.result (cell_has_some objects)
    (c.columns_with-in-Any.ensures ∙ ap (λ (objects : List ObjectId).
    row_cells (list_any (holds_any objects)) grid c.args.row) c.as_slice-in-Any.ensures)
    ∙ ap (λ (meaning : Meaning). row_cells (is_in (meaning_shown meaning)) grid c.args.row) (sym c.in-Any.is)
