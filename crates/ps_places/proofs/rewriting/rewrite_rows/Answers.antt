use Rattle.std.proofs.Common.{◌∙◌, ℕ, Option, List, Bool, [], arith, refl, ap₂}
use Rattle.std.proofs.lemmas.List.{get_or_default}
use Rattle.ps_model.specs.board.Grid.{Grid}
use Rattle.ps_model.specs.board.Attempts.{Rewritten}
use Rattle.ps_board.proofs.ColumnLaws.{first_in}
use Rattle.ps_board.proofs.Taken.{was_in}
use Rattle.ps_match.proofs.RowWritten.{told}
use Rattle.ps_places.specs.WrittenTogether.{cells_changed}
use Rattle.ps_places.proofs.RowsTogether.{all_done, room_on_row, row_more, rows_none}
use Rattle.ps_match.specs.FixedParts.{same_layers, same_sides}
use Rattle.ps_places.proofs.rewriting.rewrite_rows.Goals as goal

pub loop-row-init : goal.loop-row-init
loop-row-init g c =
    record {
      among = λ row low on. on;
      rewritten = λ grid some found alone.
          rows_none (g.B.Board.grid c.args.board.now) (g.B.Board.table c.args.board.now) c.args.axis c.args.part.now
          c.args.rows c.args.starts.now grid some found alone;
      fixed = refl;
    }

pub rewrite_row-changed-requires-clause-room : goal.rewrite_row-changed-requires-clause-room
rewrite_row-changed-requires-clause-room g c = λ k low.
    let first = first_in c.loop-row.left c.in-Some.row _ c.in-Some.ensures.some in
    room_on_row (g.B.Board.grid c.args.board.now) (g.B.Board.grid c.loop-row.board) (g.B.Board.table c.args.board.now)
    c.args.axis c.args.part.now c.args.rows c.args.starts.now
    c.requires.starts (same_sides c.loop-row.invariant.fixed) c.in-Some.row k
    (c.loop-row.invariant.among c.in-Some.row first.1 first.0) low

pub loop-row-preserved : goal.loop-row-preserved
loop-row-preserved g c =
    let start : Grid = g.B.Board.grid c.args.board.now in
    let table : Option (List ℕ) = g.B.Board.table c.args.board.now in
    let row : ℕ = c.in-Some.row in
    let first = first_in c.loop-row.left row _ c.in-Some.ensures.some in
    let columns : List Bool = c.index-starts-row.result in
    let now : Rewritten = told (g.B.Board.grid c.loop-row.board) c.loop-row.changed in
    let next : Rewritten = told (g.B.Board.grid c.rewrite_row-changed.new.board) c.rewrite_row-changed.result in
    record {
      among = λ r low on.
          c.loop-row.invariant.among r low
          (was_in c.loop-row.left c.take_first.new.self row r c.in-Some.ensures.some low on);
      rewritten = λ grid some found alone.
          row_more start table c.args.axis c.args.part.now c.args.rows c.args.starts.now grid some found alone
          c.loop-row.left c.take_first.new.self row now next
          c.in-Some.ensures.some (c.loop-row.invariant.among row first.1 first.0)
          (c.loop-row.invariant.rewritten grid some found alone)
          (c.rewrite_row-changed.ensures.rewritten
          ∙ ap₂ (λ (t : Option (List ℕ)) (cs : List Bool). cells_changed now t c.args.axis row cs 0 c.args.part.now)
          (same_layers c.loop-row.invariant.fixed)
          (c.index-starts-row.is ∙ get_or_default c.args.starts.now row columns []
          (omega (arith, first.1, c.requires.long))));
      fixed = c.rewrite_row-changed.ensures.fixed ∙ c.loop-row.invariant.fixed;
    }

pub returns-clause-rewritten : goal.returns-clause-rewritten
returns-clause-rewritten g c =
    let start : Grid = g.B.Board.grid c.args.board.now in
    let table : Option (List ℕ) = g.B.Board.table c.args.board.now in
    c.loop-row.invariant.rewritten c.recall_shape.ensures.shape c.requires.whole c.requires.starts c.requires.alone
    ∙ all_done start table c.args.axis c.args.part.now c.args.rows c.args.starts.now c.recall_shape.ensures.shape
    c.requires.whole c.requires.starts c.requires.alone
    c.loop-row.left (c.in_default.ensures.none refl)
