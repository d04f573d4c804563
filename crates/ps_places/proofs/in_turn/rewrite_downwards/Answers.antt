use Rattle.std.proofs.Common.{◌≡◌, ◌∙◌, ℕ, ◌-◌, ◌<◌, Option, List, Bool, [], false, length, arith, refl, sym, ap, ap₂}
use Rattle.std.proofs.lemmas.List.{get_or_default}
use Rattle.ps_model.specs.board.Grid.{Grid}
use Rattle.ps_model.specs.board.Attempts.{Rewritten}
use Rattle.ps_model.specs.meaning.RuleMeanings.{CellMeaning}
use Rattle.ps_board.proofs.ColumnLaws.{first_in}
use Rattle.ps_board.proofs.Taken.{was_in}
use Rattle.ps_match.proofs.RowWritten.{told}
use Rattle.ps_program.specs.declared.rows.Axis.TheVariants.{Down}
use Rattle.ps_places.specs.InTurn.{row_in_turn}
use Rattle.ps_places.specs.Lines.{part_meaning}
use Rattle.ps_places.proofs.ChangedBefore.{or_before, row_before}
use Rattle.ps_places.proofs.DownTurns.{all_in_turn, next_row, rows_in_turn}
use Rattle.ps_places.proofs.RowsTogether.{room_on_row}
use Rattle.ps_match.specs.FixedParts.{same_layers, same_sides}
use Rattle.ps_places.proofs.in_turn.rewrite_downwards.Goals as goal

pub rewrite_fitting-changed-requires-clause-room : goal.rewrite_fitting-changed-requires-clause-room
rewrite_fitting-changed-requires-clause-room g c =
    let first = first_in c.loop-row.left c.in-Some.row _ c.in-Some.ensures.some in
    let last : length c.args.part.now - 1 < length c.args.part.now = omega (arith, c.requires.whole) in
    let room = room_on_row (g.B.Board.grid c.args.board.now) (g.B.Board.grid c.loop-row.board)
    (g.B.Board.table c.args.board.now) Down c.args.part.now c.args.rows c.args.starts.now
    c.requires.starts (same_sides c.loop-row.invariant.fixed) c.in-Some.row (length c.args.part.now - 1)
    (c.loop-row.invariant.among c.in-Some.row first.1 first.0) last in
    omega (arith, room, c.requires.whole)

pub loop-row-preserved : goal.loop-row-preserved
loop-row-preserved g c =
    let start : Grid = g.B.Board.grid c.args.board.now in
    let table : Option (List ℕ) = g.B.Board.table c.args.board.now in
    let now : Grid = g.B.Board.grid c.loop-row.board in
    let all : List CellMeaning = part_meaning table c.args.part.now in
    let row : ℕ = c.in-Some.row in
    let columns : List Bool = c.index-starts-row.result in
    let first = first_in c.loop-row.left row _ c.in-Some.ensures.some in
    let width : now.width ≡ start.width = ap (λ (s : ℕ × ℕ × ℕ). s.0) (same_sides c.loop-row.invariant.fixed) in
    let height : now.height ≡ start.height = ap (λ (s : ℕ × ℕ × ℕ). s.1) (same_sides c.loop-row.invariant.fixed) in
    record {
      among = λ r low on.
          c.loop-row.invariant.among r low
          (was_in c.loop-row.left c.take_first.new.self row r c.in-Some.ensures.some low on);
      rewritten =
          next_row start.width start.height all c.args.starts.now (told now c.loop-row.changed) _ c.loop-row.left
          c.take_first.new.self row c.in-Some.ensures.some
          (ap (or_before c.loop-row.changed) (c.rewrite_fitting-changed.ensures.rewritten
          ∙ ap₂ (λ (w h : ℕ). row_in_turn w h (part_meaning (g.B.Board.table c.loop-row.board) c.args.part.now) row
          columns (told now false)) width height
          ∙ ap₂ (λ (t : Option (List ℕ)) (cs : List Bool). row_in_turn start.width start.height
          (part_meaning t c.args.part.now) row cs (told now false)) (same_layers c.loop-row.invariant.fixed)
          (c.index-starts-row.is ∙ get_or_default c.args.starts.now row columns []
          (omega (arith, first.1, c.requires.long))))
          ∙ sym (row_before c.loop-row.changed now start.width start.height all row _))
          ∙ c.loop-row.invariant.rewritten;
      fixed = c.rewrite_fitting-changed.ensures.fixed ∙ c.loop-row.invariant.fixed;
    }

pub returns-clause-rewritten : goal.returns-clause-rewritten
returns-clause-rewritten g c =
    let start : Grid = g.B.Board.grid c.args.board.now in
    let table : Option (List ℕ) = g.B.Board.table c.args.board.now in
    let all : List CellMeaning = part_meaning table c.args.part.now in
    let last : Rewritten = told (g.B.Board.grid c.loop-row.board) c.loop-row.changed in
    sym (ap (rows_in_turn start.width start.height all c.args.starts.now last) (c.in_default.ensures.none refl))
    ∙ c.loop-row.invariant.rewritten
    ∙ all_in_turn start table c.args.part.now c.args.rows c.args.starts.now c.recall_shape.ensures.shape
    c.requires.whole c.requires.starts
