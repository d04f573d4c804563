use Rattle.std.proofs.Common.{◌≡◌, ◌∙◌, ◌+◌, ◌*◌, ◌<◌, Bool, ℕ, List, false, refl, sym, subst, ap}
use Rattle.std.specs.List.{list_any}
use Rattle.ps_model.specs.declared.pieces.ObjectId.{ObjectId}
use Rattle.ps_model.specs.names.Names.{players}
use Rattle.ps_model.specs.board.Grid.{Grid}
use Rattle.ps_model.specs.board.Turns.{has_player}
use Rattle.ps_board.specs.ColumnSets.{columns_below}
use Rattle.ps_board.proofs.Taken.{below-init, below-more, passed-all, passed-init, passed-more, taken_below}
use Rattle.ps_turn.specs.RowsOfCells.{NonePassOutside, has_player_at}
use Rattle.ps_turn.specs.Sweeps.{holds_any}
use Rattle.ps_turn.proofs.RowsHeld.{outside_agree}
use Rattle.ps_turn.proofs.RowsOfCells.{cell_has_any_of, no_number_passes, row_number_passes, row_without}
use Rattle.ps_turn.proofs.players.is_there.Goals as goal

pub loop-row-init : goal.loop-row-init
loop-row-init g c =
    let grid : Grid = g.B.Board.grid c.args.board.now in
    let test : ℕ → Bool = has_player_at c.args.game.now.names grid in
    let objects : List ObjectId = players c.args.game.now.names in
    let held : NonePassOutside (list_any (holds_any objects)) grid c.rows_with-standing.result =
    subst (λ (objects : List ObjectId). NonePassOutside (list_any (holds_any objects)) grid
    c.rows_with-standing.result) c.players.ensures c.rows_with-standing.ensures in
    let below : c.below.result ≡ columns_below grid.height = c.below.ensures
    ∙ ap columns_below c.size-height.ensures.height in
    record {
      low = below-init c.rows_with-standing.result c.below.result c.both-left.result grid.height below
          c.both-left.ensures;
      passed =
          passed-init (λ row. (x : ℕ) → x < grid.width →
          test (x * grid.height + row) ≡ false) c.rows_with-standing.result c.below.result c.both-left.result
          grid.height c.size-height.ensures.shape.rows below
          c.both-left.ensures (outside_agree (list_any (holds_any objects)) (has_player c.args.game.now.names) grid
          c.rows_with-standing.result (cell_has_any_of objects) held);
    }

pub player_columns-requires : goal.player_columns-requires
player_columns-requires g c = taken_below c.loop-row.left c.take_first.new.self _ c.in-Some.row c.in-Some.ensures.some
    c.loop-row.invariant.low

pub returns-then-not-is_empty : goal.returns-then-not-is_empty
returns-then-not-is_empty g c =
    let grid : Grid = g.B.Board.grid c.args.board.now in
    let test : ℕ → Bool = has_player_at c.args.game.now.names grid in
    let within : c.in-Some.row < grid.height =
    taken_below c.loop-row.left c.take_first.new.self grid.height c.in-Some.row c.in-Some.ensures.some
    c.loop-row.invariant.low in
    sym (row_number_passes test grid.width grid.height c.in-Some.row c.player_columns.result within
    c.player_columns.ensures (c.is_empty.ensures.some c.if-not-is_empty.true))

pub loop-row-preserved : goal.loop-row-preserved
loop-row-preserved g c =
    let grid : Grid = g.B.Board.grid c.args.board.now in
    let test : ℕ → Bool = has_player_at c.args.game.now.names grid in
    record {
      low = below-more c.loop-row.left c.take_first.new.self grid.height c.in-Some.row c.in-Some.ensures.some
          c.loop-row.invariant.low;
      passed =
          passed-more (λ row. (x : ℕ) → x < grid.width →
          test (x * grid.height + row) ≡ false) c.loop-row.left c.take_first.new.self grid.height c.in-Some.row
          c.size-height.ensures.shape.rows
          c.in-Some.ensures.some
          (row_without test grid.width grid.height c.in-Some.row c.player_columns.result
          c.size-height.ensures.shape.columns c.player_columns.ensures
          (c.is_empty.ensures.none c.if-not-is_empty.false))
          c.loop-row.invariant.passed;
    }

pub returns : goal.returns
returns g c =
    let grid : Grid = g.B.Board.grid c.args.board.now in
    let test : ℕ → Bool = has_player_at c.args.game.now.names grid in
    sym (no_number_passes test grid.width grid.height c.size-height.ensures.shape.some_row
    (λ x row across down.
    passed-all (λ row. (x : ℕ) → x < grid.width →
    test (x * grid.height + row) ≡ false) c.loop-row.left grid.height row c.size-height.ensures.shape.rows
    (c.in_default.ensures.none refl)
    c.loop-row.invariant.passed down x across))
