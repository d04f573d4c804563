use Rattle.std.proofs.Common.{◌≡◌, ◌∙◌, ◌+◌, ◌*◌, ◌<◌, ℕ, Bool, List, sym, ap, arith}
use Rattle.ps_board.specs.ColumnSets.{column_at, columns_below}
use Rattle.ps_screen.specs.PlainFrames.{row_start}
use Rattle.ps_screen.specs.PlainRows.{IsPlainRow}
use Rattle.ps_screen.proofs.PlainFrames.{ends_stay, frame_drawn, next_row, row_undrawn, row_written}
use Rattle.ps_screen.proofs.PlainRows.{within_below}
use Rattle.ps_screen.proofs.plain_frames.draw_frame.Goals as goal

pub loop-row-init : goal.loop-row-init
loop-row-init g c =
    let grid = g.B.Board.grid c.args.board.now in
    record {
      ends = rw (← c.size-width.ensures.width, ← c.size-width.ensures.height) c.in_ok-make_blank.ensures;
      drawn = λ row low. absurd (omega (arith, low));
    }

pub patch_columns-requires-clause-within : goal.patch_columns-requires-clause-within
patch_columns-requires-clause-within g c = λ x low has.
    let width : ℕ = (g.B.Board.grid c.args.board.now).width in
    let all : c.below-columns.result ≡ columns_below width = c.below-columns.ensures
    ∙ ap columns_below c.size-width.ensures.width in
    within_below width x low (ap (λ (set : List Bool). column_at set x) (sym all) ∙ has)

pub patch_columns-requires-clause-drawn : goal.patch_columns-requires-clause-drawn
patch_columns-requires-clause-drawn g c =
    let grid = g.B.Board.grid c.args.board.now in
    let row : ℕ = c.loop-row.row in
    let under : row < grid.height = omega (arith, c.loop-row-test.true, c.size-width.ensures.height) in
    rw c.size-width.ensures.width
    (row_undrawn c.args.look.now grid row c.below-columns.result c.loop-row.text c.size-width.ensures.shape.columns
    (c.below-columns.ensures ∙ ap columns_below c.size-width.ensures.width) under c.loop-row.invariant.ends)

pub loop-row-preserved : goal.loop-row-preserved
loop-row-preserved g c =
    let grid = g.B.Board.grid c.args.board.now in
    let row : ℕ = c.loop-row.row in
    let under : row < grid.height = omega (arith, c.loop-row-test.true, c.size-width.ensures.height) in
    let start : row * (c.size-width.result.0 + 1) ≡ row_start grid.width row =
    ap (λ (n : ℕ). row * (n + 1)) c.size-width.ensures.width in
    let wrote = row_written c.args.look.now grid row _ c.loop-row.text c.patch_columns.new.text start
    c.patch_columns.ensures.long c.patch_columns.ensures.elsewhere in
    let plain : IsPlainRow c.args.look.now grid row (row_start grid.width row) c.patch_columns.new.text =
    rw (← start) (c.in_ok-plain.ensures.plain c.if-not-plain.false) in
    record {
      ends = ends_stay grid.width grid.height row c.loop-row.text c.patch_columns.new.text under wrote
          c.loop-row.invariant.ends;
      drawn = next_row c.args.look.now grid row c.loop-row.text c.patch_columns.new.text wrote plain
          c.loop-row.invariant.drawn;
    }

pub returns : goal.returns
returns g c = λ plain.
    let grid = g.B.Board.grid c.args.board.now in
    frame_drawn c.args.look.now grid c.loop-row.text c.loop-row.invariant.ends
    (λ row under. c.loop-row.invariant.drawn row
    (omega (arith, under, c.loop-row-test.false, c.size-width.ensures.height)))
