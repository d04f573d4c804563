use Rattle.std.proofs.Common.{◌≡◌, ◌∙◌, ◌||◌, ℕ, Bool, List, Option, refl, ap}
use Rattle.ps_model.specs.declared.pieces.Slot.{Slot}
use Rattle.ps_model.specs.board.Grid.{Grid}
use Rattle.ps_model.specs.board.Attempts.{Rewritten}
use Rattle.ps_model.specs.meaning.Compiled.{cell_written}
use Rattle.ps_program.specs.CellsShown.{write_shown}
use Rattle.ps_board.proofs.ColumnLaws.{first_in}
use Rattle.ps_board.specs.ColumnSets.{set_columns}
use Rattle.ps_match.specs.InRoom.{write_in_room}
use Rattle.ps_match.specs.Together.{rewritten_where}
use Rattle.ps_match.proofs.RowWritten.{height-where, told}
use Rattle.ps_engine.specs.Writing.{is_behind}
use Rattle.ps_engine.proofs.WrittenBehind.{all-of, all_rows_behind, fewer-of, no_row_behind, one_row_behind, passed_by}
use Rattle.ps_match.specs.FixedParts.{same_layers}
use Rattle.ps_engine.proofs.writing.write_targets.Goals as goal

pub loop-row-init : goal.loop-row-init
loop-row-init g c =
    let start : Grid = g.B.Board.grid c.args.board.now in
    let becomes : List Slot → List Slot = cell_written (write_in_room (g.B.Board.table c.args.board.now)
    (write_shown c.args.write.now)) in
    record {
      among = all-of c.args.rows;
      rewritten = no_row_behind start becomes c.args.offset.axis c.args.offset.steps c.args.rows c.args.row_scratch.now.starts.items
          c.recall_shape.ensures.shape;
      fixed = refl;
    }

pub write_behind-changed-requires : goal.write_behind-changed-requires
write_behind-changed-requires g c =
    let start : Grid = g.B.Board.grid c.args.board.now in
    let becomes : List Slot → List Slot = cell_written (write_in_room (g.B.Board.table c.args.board.now)
    (write_shown c.args.write.now)) in
    let high : (g.B.Board.grid c.loop-row.board).height ≡ start.height =
    ap (λ (r : Rewritten). r.grid.height) c.loop-row.invariant.rewritten
    ∙ height-where start becomes (passed_by c.args.offset.axis start.height c.args.offset.steps c.args.rows
    c.args.row_scratch.now.starts.items c.loop-row.left) in
    let first = first_in c.loop-row.left c.in-Some.row (set_columns c.take_first.new.self) c.in-Some.ensures.some in
    rw high ((c.requires).at c.in-Some.row ((c.loop-row.invariant.among).at c.in-Some.row first.1 first.0))

pub loop-row-preserved : goal.loop-row-preserved
loop-row-preserved g c =
    let start : Grid = g.B.Board.grid c.args.board.now in
    let now : Grid = g.B.Board.grid c.loop-row.board in
    let next : Grid = g.B.Board.grid c.write_behind-changed.new.board in
    let table : Option (List ℕ) = g.B.Board.table c.args.board.now in
    let becomes : List Slot → List Slot = cell_written (write_in_room table (write_shown c.args.write.now)) in
    let starts : List (List Bool) = c.args.row_scratch.now.starts.items in
    let any : Bool = c.loop-row.changed in
    let high : now.height ≡ start.height =
    ap (λ (r : Rewritten). r.grid.height) c.loop-row.invariant.rewritten
    ∙ height-where start becomes (passed_by c.args.offset.axis start.height c.args.offset.steps c.args.rows starts c.loop-row.left) in
    let by : Option (List ℕ) → Rewritten = λ t.
    rewritten_where now (cell_written (write_in_room t (write_shown c.args.write.now)))
    (is_behind c.args.offset.axis now.height c.args.offset.steps c.in-Some.row c.targets_on-columns.result) in
    let made : told next c.write_behind-changed.result ≡ by table = c.write_behind-changed.ensures.rewritten
    ∙ ap by (same_layers c.loop-row.invariant.fixed) in
    record {
      among = fewer-of c.args.rows c.loop-row.left c.take_first.new.self c.in-Some.row c.in-Some.ensures.some
          c.loop-row.invariant.among;
      rewritten =
          one_row_behind start now next becomes c.args.offset.axis c.args.offset.steps c.in-Some.row c.args.rows c.loop-row.left
          c.take_first.new.self
          c.targets_on-columns.result starts any (any || c.write_behind-changed.result) c.recall_shape.ensures.shape
          high c.loop-row.invariant.rewritten
          c.in-Some.ensures.some c.loop-row.invariant.among c.targets_on-columns.ensures (ap (λ
          (r : Rewritten). r.grid) made)
          (ap (λ (r : Rewritten). any || r.changed) made);
      fixed = c.write_behind-changed.ensures.fixed ∙ c.loop-row.invariant.fixed;
    }

pub returns-clause-rewritten : goal.returns-clause-rewritten
returns-clause-rewritten g c =
    let start : Grid = g.B.Board.grid c.args.board.now in
    let becomes : List Slot → List Slot = cell_written (write_in_room (g.B.Board.table c.args.board.now)
    (write_shown c.args.write.now)) in
    all_rows_behind start becomes c.args.offset.axis c.args.offset.steps c.args.rows c.loop-row.left c.args.row_scratch.now.starts.items
    (told (g.B.Board.grid c.loop-row.board) c.loop-row.changed) c.recall_shape.ensures.shape
    (c.in_default.ensures.none refl) c.loop-row.invariant.rewritten
