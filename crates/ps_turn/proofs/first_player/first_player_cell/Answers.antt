use Rattle.std.proofs.Common.{◌≡◌, ◌∙◌, ◌+◌, ◌*◌, Bool, ℕ, List, Option, None, refl, sym, subst, ap}
use Rattle.std.specs.List.{list_any}
use Rattle.std.proofs.lemmas.Bool.{false≢true}
use Rattle.ps_model.specs.declared.pieces.ObjectId.{ObjectId}
use Rattle.ps_model.specs.names.Names.{players}
use Rattle.ps_model.specs.board.Grid.{Grid}
use Rattle.ps_model.specs.board.Turns.{has_player}
use Rattle.ps_board.specs.ColumnSets.{columns_below}
use Rattle.ps_board.proofs.Taken.{below-init, below-more, passed-all, passed-changed, passed-init, taken_below}
use Rattle.ps_turn.specs.FirstCells.{IsFirstOfRow, earlier}
use Rattle.ps_turn.specs.RowsOfCells.{NonePassOutside, has_player_at}
use Rattle.ps_turn.specs.Sweeps.{holds_any}
use Rattle.ps_turn.proofs.FirstCells.{earlier_first, earlier_second, first_found, passes_earlier}
use Rattle.ps_turn.proofs.RowsHeld.{outside_agree}
use Rattle.ps_turn.proofs.RowsOfCells.{cell_has_any_of}
use Rattle.ps_turn.proofs.first_player.first_player_cell.Goals as goal

pub loop-row-init : goal.loop-row-init
loop-row-init g c =
    let grid : Grid = g.B.Board.grid c.args.board.now in
    let test : ℕ → Bool = has_player_at c.args.game.now.names grid in
    let objects : List ObjectId = players c.args.game.now.names in
    let held : NonePassOutside (list_any (holds_any objects)) grid c.rows_with-standing.result =
    subst (λ (objects : List ObjectId). NonePassOutside (list_any (holds_any objects)) grid
    c.rows_with-standing.result) c.players.ensures c.rows_with-standing.ensures in
    let below : c.below.result ≡ columns_below grid.height = c.below.ensures
    ∙ ap columns_below c.size-height.ensures.height in
    record {
      low = below-init c.rows_with-standing.result c.below.result c.both-left.result grid.height below
          c.both-left.ensures;
      passes = λ cell is. absurd (cc);
      passed =
          passed-init (λ row. IsFirstOfRow test grid row None) c.rows_with-standing.result c.below.result
          c.both-left.result grid.height c.size-height.ensures.shape.rows below c.both-left.ensures
          (λ row low out x across is.
          absurd (false≢true (sym (outside_agree (list_any (holds_any objects)) (has_player c.args.game.now.names) grid
          c.rows_with-standing.result (cell_has_any_of objects) held row low out x across) ∙ is)));
    }

pub first_in_row-requires : goal.first_in_row-requires
first_in_row-requires g c = taken_below c.loop-row.left c.take_first.new.self _ c.in-Some.row c.in-Some.ensures.some
    c.loop-row.invariant.low

pub loop-row-preserved : goal.loop-row-preserved
loop-row-preserved g c =
    let grid : Grid = g.B.Board.grid c.args.board.now in
    let test : ℕ → Bool = has_player_at c.args.game.now.names grid in
    let first : Option ℕ = c.loop-row.first in
    let second : Option ℕ = c.first_in_row.result in
    rw c.earlier-first.ensures
    record {
      low = below-more c.loop-row.left c.take_first.new.self grid.height c.in-Some.row c.in-Some.ensures.some
          c.loop-row.invariant.low;
      passes = passes_earlier test grid first second c.loop-row.invariant.passes c.first_in_row.ensures.passes;
      passed =
          passed-changed (λ row. IsFirstOfRow test grid row first) (λ row.
          IsFirstOfRow test grid row (earlier first second)) c.loop-row.left c.take_first.new.self grid.height
          c.in-Some.row
          c.size-height.ensures.shape.rows c.in-Some.ensures.some
          (λ x across is. earlier_second first second (x * grid.height + c.in-Some.row)
          (c.first_in_row.ensures.first x across is))
          (λ row low other so x across is. earlier_first first second (x * grid.height + row) (so x across is))
          c.loop-row.invariant.passed;
    }

pub returns : goal.returns
returns g c =
    let grid : Grid = g.B.Board.grid c.args.board.now in
    let test : ℕ → Bool = has_player_at c.args.game.now.names grid in
    first_found test grid c.loop-row.first c.size-height.ensures.shape.some_row c.loop-row.invariant.passes
    (λ row down.
    passed-all (λ row. IsFirstOfRow test grid row c.loop-row.first) c.loop-row.left grid.height row
    c.size-height.ensures.shape.rows (c.in_default.ensures.none refl)
    c.loop-row.invariant.passed down)
