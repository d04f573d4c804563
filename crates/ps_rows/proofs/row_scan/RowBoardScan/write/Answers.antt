use Rattle.std.proofs.Common.{◌≡◌, ◌*◌, ◌/◌, ◌%◌, ◌<◌, ℕ, Some, subst, Bool, List, true, ap, ap₂, arith, ◌∙◌}
use Rattle.std.proofs.lemmas.Nat.{div_below}
use Rattle.ps_model.specs.board.Attempts.{Rewritten}
use Rattle.ps_model.specs.board.Grid.{Grid}
use Rattle.ps_model.specs.meaning.Compiled.{CellWrite, cell_written}
use Rattle.ps_program.specs.ProgramShown.{write_shown}
use Rattle.ps_match.specs.InRoom.{write_in_room}
use Rattle.ps_match.specs.Together.{rewritten_where}
use Rattle.ps_rows.specs.Showing.{grid_shown}
use Rattle.ps_rows.specs.SlotsWritten.{in_columns}
use Rattle.ps_rows.proofs.OneCell.{alone_within, cell_rewritten, column_alone}
use Rattle.ps_rows.proofs.Rests.{cells_long}
use Rattle.ps_board.specs.ColumnSets.{column_at, with_column}
use Rattle.ps_rows.proofs.row_scan.RowBoardScan.write.Goals as goal

pub with-column-requires : goal.with-column-requires
with-column-requires g c =
    let b = c.args.self.now in
    let inside : c.args.cell < b.width * b.planes.height =
    rw (c.size-width.ensures.width, c.size-width.ensures.height) at c.if-width-height.false in
    let across : c.args.cell / b.planes.height < b.width =
    div_below c.args.cell b.planes.height b.width b.planes.some_row inside in
    rw c.size-width.ensures.height (omega (arith, across, b.narrow))

pub write_columns-here-requires-clause-within : goal.write_columns-here-requires-clause-within
write_columns-here-requires-clause-within g c = λ x far low.
    let b = c.args.self.now in
    let inside : c.args.cell < b.width * b.planes.height =
    rw (c.size-width.ensures.width, c.size-width.ensures.height) at c.if-width-height.false in
    let made : c.with-column.result ≡ column_alone (c.args.cell / b.planes.height) =
    c.with-column.ensures ∙ ap₂ (λ (set : List Bool) (h : ℕ).
    with_column set (c.args.cell / h) true) c.none.ensures c.size-width.ensures.height in
    ap (λ (set : List Bool). column_at set x) made
    ∙ alone_within b.width (c.args.cell / b.planes.height)
    (div_below c.args.cell b.planes.height b.width b.planes.some_row inside) x far low

pub returns-clause-rewritten : goal.returns-clause-rewritten
returns-clause-rewritten g c =
    let b = c.args.self.now in
    let cell : ℕ = c.args.cell in
    let start : Grid = grid_shown b.members.table.items b.width b.planes.height b.layers b.planes.words.items in
    let after = c.write_columns-here.new.self in
    let next : Grid = grid_shown after.members.table.items after.width after.planes.height after.layers
    after.planes.words.items in
    let write : CellWrite = write_in_room (Some b.members.table.items) (write_shown c.args.write.now) in
    let inside : cell < b.width * b.planes.height =
    rw (c.size-width.ensures.width, c.size-width.ensures.height) at c.if-width-height.false in
    let here : Rewritten = record { grid = next; changed = c.write_columns-here.result } in
    let made : c.with-column.result ≡ column_alone (cell / c.size-width.result.1) =
    c.with-column.ensures ∙ ap (λ (set : List Bool).
    with_column set (cell / c.size-width.result.1) true) c.none.ensures in
    let told : here ≡ rewritten_where start (cell_written write)
    (in_columns b.planes.height (cell % c.size-width.result.1) (column_alone (cell / c.size-width.result.1))) =
    c.write_columns-here.ensures.rewritten
    ∙ ap (λ (set : List Bool). rewritten_where start (cell_written write)
    (in_columns b.planes.height (cell % c.size-width.result.1) set)) made in
    let P : ℕ → Type 0 = λ h. here ≡ rewritten_where start (cell_written write)
    (in_columns b.planes.height (cell % h) (column_alone (cell / h))) in
    cell_rewritten start cell b.planes.some_row b.columns
    (cells_long b.members.table.items b.layers b.planes.height b.planes.words.items (b.width * b.planes.height))
    inside write c.args.changed
    c.write_columns-here.result next (subst P c.size-width.ensures.height told)
