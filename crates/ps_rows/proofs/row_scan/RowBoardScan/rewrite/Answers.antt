use Rattle.std.proofs.Common.{◌∙◌, ◌*◌, List, Some, sym, Bool, ap, refl}
use Rattle.ps_model.specs.declared.pieces.Slot.{Slot}
use Rattle.ps_model.specs.board.Grid.{Grid}
use Rattle.ps_model.specs.meaning.Compiled.{cell_written}
use Rattle.ps_program.specs.ProgramShown.{write_shown}
use Rattle.ps_match.specs.InRoom.{write_in_room}
use Rattle.ps_rows.specs.Showing.{grid_shown}
use Rattle.ps_rows.proofs.Rests.{cells_long}
use Rattle.ps_rows.proofs.RowsWritten.{set_empty, set_rewritten, set_within}
use Rattle.ps_match.specs.Together.{rewritten_where}
use Rattle.ps_rows.specs.SlotsWritten.{in_columns}
use Rattle.ps_board.specs.ColumnSets.{column_at, set_columns}
use Rattle.ps_rows.proofs.row_scan.RowBoardScan.rewrite.Goals as goal

pub write_columns-requires-clause-within : goal.write_columns-requires-clause-within
write_columns-requires-clause-within g c = λ x far low.
    let b = c.args.self.now in
    ap (λ (set : List Bool). column_at set x) c.both-within.ensures
    ∙ set_within b.width b.all_columns c.args.columns.now b.columns b.all x far low

pub returns-then-is_empty-clause-rewritten : goal.returns-then-is_empty-clause-rewritten
returns-then-is_empty-clause-rewritten g c =
    let b = c.args.self.now in
    let start : Grid = grid_shown b.members.table.items b.width b.planes.height b.layers b.planes.words.items in
    let becomes : List Slot → List Slot = cell_written
    (write_in_room (Some b.members.table.items) (write_shown c.args.write.now)) in
    set_empty b.width b.all_columns c.args.columns.now b.columns b.all start becomes c.args.row refl c.requires
    (cells_long b.members.table.items b.layers b.planes.height b.planes.words.items (b.width * b.planes.height))
    (ap set_columns (sym c.both-within.ensures) ∙ c.is_empty.ensures.none c.if-is_empty.true)

pub returns-clause-rewritten : goal.returns-clause-rewritten
returns-clause-rewritten g c =
    let b = c.args.self.now in
    let start : Grid = grid_shown b.members.table.items b.width b.planes.height b.layers b.planes.words.items in
    let becomes : List Slot → List Slot = cell_written
    (write_in_room (Some b.members.table.items) (write_shown c.args.write.now)) in
    c.write_columns.ensures.rewritten
    ∙ ap (λ (set : List Bool). rewritten_where start becomes (in_columns b.planes.height c.args.row set))
    c.both-within.ensures
    ∙ set_rewritten b.width b.all_columns c.args.columns.now b.columns b.all start becomes c.args.row refl c.requires
    (cells_long b.members.table.items b.layers b.planes.height b.planes.words.items (b.width * b.planes.height))
