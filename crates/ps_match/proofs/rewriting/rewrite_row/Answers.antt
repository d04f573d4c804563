use Rattle.std.proofs.Common.{◌≡◌, ◌∙◌, ℕ, ◌+◌, ◌*◌, ◌<◌, ◌≤◌, ◌&&◌, ◌||◌, Bool, Option, List, refl, ap}
use Rattle.std.specs.Prelude.{nat_eq}
use Rattle.ps_model.specs.declared.pieces.Slot.{Slot}
use Rattle.ps_model.specs.board.Grid.{Grid}
use Rattle.ps_model.specs.board.Attempts.{Rewritten}
use Rattle.ps_model.specs.meaning.Compiled.{cell_written}
use Rattle.ps_program.specs.ProgramShown.{write_shown}
use Rattle.ps_board.proofs.PassedColumns.{cell_below}
use Rattle.ps_match.specs.InRoom.{sides_of, write_in_room}
use Rattle.ps_match.specs.FixedParts.{fixed_by}
use Rattle.ps_match.specs.Together.{rewritten_where}
use Rattle.ps_match.proofs.RowWritten.{all_columns, no_column_yet, one_column_more, height-where, passed, sides-where}
use Rattle.ps_match.proofs.RowWritten.{told, width-where}
use Rattle.ps_match.proofs.rewriting.rewrite_row.Goals as goal

pub loop-column-init : goal.loop-column-init
loop-column-init g c =
    let start : Grid = g.B.Board.grid c.args.board.now in
    let becomes : List Slot → List Slot = cell_written
    (write_in_room (g.B.Board.table c.args.board.now) (write_shown c.args.write.now)) in
    record {
      rewritten = no_column_yet start becomes c.args.row c.args.columns;
      table = refl;
      origin = refl;
    }

pub write_if-changed-requires : goal.write_if-changed-requires
write_if-changed-requires g c =
    let start : Grid = g.B.Board.grid c.args.board.now in
    let now : Grid = g.B.Board.grid c.loop-column.board in
    let becomes : List Slot → List Slot = cell_written
    (write_in_room (g.B.Board.table c.args.board.now) (write_shown c.args.write.now)) in
    let row : ℕ = c.args.row in
    let column : ℕ = c.loop-column.column in
    let chosen : ℕ → Bool = passed start.height row c.args.columns column in
    let wide : now.width ≡ start.width = ap (λ (r : Rewritten). r.grid.width) c.loop-column.invariant.rewritten
    ∙ width-where start becomes chosen in
    let high : now.height ≡ start.height = ap (λ (r : Rewritten). r.grid.height) c.loop-column.invariant.rewritten
    ∙ height-where start becomes chosen in
    let across : column < start.width = rw (← c.size-width.ensures.width) c.loop-column-test.true in
    rw (c.size-width.ensures.height, wide, high) (cell_below start.width start.height column row across c.requires)

pub loop-column-preserved : goal.loop-column-preserved
loop-column-preserved g c =
    let start : Grid = g.B.Board.grid c.args.board.now in
    let now : Grid = g.B.Board.grid c.loop-column.board in
    let next : Grid = g.B.Board.grid c.write_if-changed.new.board in
    let becomes : List Slot → List Slot = cell_written
    (write_in_room (g.B.Board.table c.args.board.now) (write_shown c.args.write.now)) in
    let row : ℕ = c.args.row in
    let column : ℕ = c.loop-column.column in
    let cell : ℕ = column * c.size-width.result.1 + row in
    let wanted : Bool = c.has-wanted.result in
    let any : Bool = c.loop-column.changed in
    let same : g.B.Board.table c.loop-column.board ≡ g.B.Board.table c.args.board.now = c.loop-column.invariant.table in
    let by : Option (List ℕ) → List Slot → List Slot = λ table.
    cell_written (write_in_room table (write_shown c.args.write.now)) in
    let grid : next ≡ (rewritten_where now becomes (λ n. wanted && nat_eq n cell)).grid =
    c.write_if-changed.ensures.grid ∙ ap (λ (table : Option (List ℕ)).
    (rewritten_where now (by table) (λ n. wanted && nat_eq n cell)).grid) same in
    let changed : c.write_if-changed.result ≡ (any ||
    (rewritten_where now becomes (λ n. wanted && nat_eq n cell)).changed) =
    c.write_if-changed.ensures.changed ∙ ap (λ (table : Option (List ℕ)).
    any || (rewritten_where now (by table) (λ n. wanted && nat_eq n cell)).changed) same in
    record {
      rewritten =
          one_column_more start now next becomes row c.args.columns column cell wanted any c.write_if-changed.result
          c.requires c.loop-column.invariant.rewritten
          (ap (λ (h : ℕ). column * h + row) c.size-width.ensures.height) c.has-wanted.ensures grid changed;
      table = c.write_if-changed.ensures.table ∙ same;
      origin = c.write_if-changed.ensures.origin ∙ c.loop-column.invariant.origin;
    }

pub returns-clause-rewritten : goal.returns-clause-rewritten
returns-clause-rewritten g c =
    let start : Grid = g.B.Board.grid c.args.board.now in
    let becomes : List Slot → List Slot = cell_written
    (write_in_room (g.B.Board.table c.args.board.now) (write_shown c.args.write.now)) in
    let all : start.width ≤ c.loop-column.column = rw (← c.size-width.ensures.width) c.loop-column-test.false in
    all_columns start becomes c.args.row c.loop-column.column c.args.columns
    (told (g.B.Board.grid c.loop-column.board) c.loop-column.changed) c.requires c.size-width.ensures.shape.cells
    all c.loop-column.invariant.rewritten

pub returns-clause-fixed : goal.returns-clause-fixed
returns-clause-fixed g c =
    let start : Grid = g.B.Board.grid c.args.board.now in
    let becomes : List Slot → List Slot = cell_written
    (write_in_room (g.B.Board.table c.args.board.now) (write_shown c.args.write.now)) in
    fixed_by c.loop-column.invariant.table c.loop-column.invariant.origin
    (ap (λ (r : Rewritten). sides_of r.grid) c.loop-column.invariant.rewritten
    ∙ sides-where start becomes (passed start.height c.args.row c.args.columns c.loop-column.column))
