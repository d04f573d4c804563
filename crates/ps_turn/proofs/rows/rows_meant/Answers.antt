use Rattle.std.proofs.Common.{List, [], ◌∷◌, sym, subst}
use Rattle.std.specs.List.{list_any}
use Rattle.ps_model.specs.declared.pieces.ObjectId.{ObjectId}
use Rattle.ps_model.specs.board.Grid.{Grid}
use Rattle.ps_model.specs.board.Winning.{is_in}
use Rattle.ps_model.specs.names.Names.{One, AnyOf}
use Rattle.ps_names.specs.declared.meaning.Meaning.{Meaning}
use Rattle.ps_names.specs.Shown.{meaning_shown}
use Rattle.ps_turn.specs.RowsOfCells.{NonePassOutside}
use Rattle.ps_turn.specs.Sweeps.{holds_any}
use Rattle.ps_turn.proofs.RowsHeld.{outside_agree}
use Rattle.ps_turn.proofs.RowsOfCells.{cell_has_one, cell_has_some}
use Rattle.ps_turn.proofs.rows.rows_meant.Goals as goal

pub returns-in-One : goal.returns-in-One
returns-in-One g c =
    let grid : Grid = g.B.Board.grid c.args.board.now in
    let object : ObjectId = c.in-One.object in
    subst (λ (meaning : Meaning). NonePassOutside (is_in (meaning_shown meaning)) grid c.rows_with.result)
    (sym c.in-One.is)
    (outside_agree (list_any (holds_any (object ∷ []))) (is_in (One object)) grid c.rows_with.result
    (cell_has_one object)
    (subst (λ (objects : List ObjectId). NonePassOutside (list_any (holds_any objects)) grid c.rows_with.result)
    c.from_ref.ensures.value c.rows_with.ensures))

pub returns-in-Any : goal.returns-in-Any
returns-in-Any g c =
    let grid : Grid = g.B.Board.grid c.args.board.now in
    let objects : List ObjectId = c.in-Any.objects in
    subst (λ (meaning : Meaning). NonePassOutside (is_in (meaning_shown meaning)) grid c.rows_with-in-Any.result)
    (sym c.in-Any.is)
    (outside_agree (list_any (holds_any objects)) (is_in (AnyOf c.in-Any.line objects)) grid c.rows_with-in-Any.result
    (cell_has_some objects)
    (subst (λ (objects : List ObjectId). NonePassOutside (list_any (holds_any objects)) grid c.rows_with-in-Any.result)
    c.as_slice-in-Any.ensures c.rows_with-in-Any.ensures))
