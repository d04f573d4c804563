use Rattle.std.proofs.Common.{◌≡◌, ◌∙◌, ◌<◌, ◌≤◌, ℕ, [], length, refl, ap, arith}
use Rattle.ps_model.specs.declared.limits.TheConstants.{SIDE_LIMIT}
use Rattle.ps_model.specs.board.Grid.{Grid}
use Rattle.ps_board.specs.ColumnSets.{no_columns}
use Rattle.ps_board.proofs.ColumnLaws.{none_in, set_columns-none}
use Rattle.ps_places.specs.RowsFound.{rows_with_room}
use Rattle.ps_places.proofs.FirstRows.{none_begun}
use Rattle.ps_places.proofs.FoundRows.{no_starts}
use Rattle.ps_places.proofs.LineSets.{none_has}
use Rattle.ps_places.proofs.StartNumbers.{no_places}
use Rattle.ps_places.proofs.part_starts.begins_nowhere.Goals as goal

below_limit : (row height : ℕ) → row < height → height ≤ SIDE_LIMIT → row < SIDE_LIMIT
below_limit row height near few = omega (arith, near, few)

pub returns-then-is_empty : goal.returns-then-is_empty
returns-then-is_empty g c = λ nowhere.
    let grid : Grid = g.B.Board.grid c.args.board.now in
    no_places grid (g.B.Board.table c.args.board.now) c.args.axis c.args.part.now no_columns [] c.size-width.ensures.shape
    c.requires
    (none_begun grid (g.B.Board.table c.args.board.now) c.args.axis c.args.part.now c.rows_of_part-rows.result
    c.size-width.ensures.shape.rows c.rows_of_part-rows.ensures [] no_columns (λ row. none_has no_columns row refl)
    (λ row near. none_in c.rows_of_part-rows.result row (c.is_empty.ensures.none c.if-is_empty.true)
    (below_limit row grid.height near c.size-width.ensures.shape.rows)))
    set_columns-none

pub returns : goal.returns
returns g c = λ nowhere.
    let grid : Grid = g.B.Board.grid c.args.board.now in
    let many : c.rows_with_room-count.result ≡ rows_with_room c.args.axis grid.height (length c.args.part.now) =
    c.rows_with_room-count.ensures
    ∙ ap (λ (h : ℕ). rows_with_room c.args.axis h (length c.args.part.now)) c.size-width.ensures.height in
    let none = c.is_empty-2.ensures.none nowhere in
    no_places grid (g.B.Board.table c.args.board.now) c.args.axis c.args.part.now c.both.result []
    c.size-width.ensures.shape c.requires
    (no_starts grid (g.B.Board.table c.args.board.now) c.args.axis c.args.part.now c.rows_of_part-rows.result c.below.result
    c.both.result c.rows_with_room-count.result c.size-width.ensures.shape.rows many c.below.ensures c.both.ensures
    c.rows_of_part-rows.ensures c.requires [] none) none
