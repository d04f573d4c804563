use Rattle.std.proofs.Common.{◌≡◌, ◌<◌, ◌∙◌, ℕ, true, List, length, ap, refl, rules, arith, subst, sym}
use Rattle.std.proofs.lemmas.Option.{slice_get_read}
use Rattle.ps_model.specs.board.Grid.{Grid}
use Rattle.ps_board.specs.ColumnSets.{columns_below, row_fits}
use Rattle.ps_match.specs.InRoom.{meaning_of_mask}
use Rattle.ps_program.specs.ProgramShown.{mask_shown}
use Rattle.ps_program.specs.declared.cells.CompiledCell.{CompiledCell}
use Rattle.ps_places.proofs.PartColumns.{down-all, down-first, down-init, down-more, down-none, down-past}
use Rattle.ps_places.proofs.columns.columns_down.Goals as goal

pub returns-then-is_empty : goal.returns-then-is_empty
returns-then-is_empty g c =
    let none : length c.args.part.now ≡ 0 = search rules in
    down-all (g.B.Board.grid c.args.board.now) (g.B.Board.table c.args.board.now) c.args.part.now c.args.row 0
    c.below.result (omega (arith, none)) (omega (arith, none, c.requires))
    (down-init (g.B.Board.grid c.args.board.now) (g.B.Board.table c.args.board.now) c.args.part.now c.args.row
    c.below.result (c.below.ensures ∙ ap columns_below c.size-width.ensures.width))

pub loop-number-init : goal.loop-number-init
loop-number-init g c =
    let grid : Grid = g.B.Board.grid c.args.board.now in
    let part : List CompiledCell = c.args.part.now in
    let some : 0 < length part = search rules in
    record {
      left = down-first grid (g.B.Board.table c.args.board.now) part c.args.row c.index-part-0.result
          c.scan-columns.result c.size-width.ensures.shape
          (slice_get_read part (length part) 0 c.index-part-0.result refl some c.index-part-0.is) some
          (subst (λ (cell : CompiledCell). c.scan-columns.result
          ≡ row_fits grid (meaning_of_mask (mask_shown cell.mask)) c.args.row) (sym c.index-part-0.is)
          c.scan-columns.ensures);
      below = refl;
      room = omega (arith, c.requires);
    }

pub returns-then-is_empty-2 : goal.returns-then-is_empty-2
returns-then-is_empty-2 g c =
    let empty : c.is_empty-in-loop-number.result ≡ true = search rules in
    down-none (g.B.Board.grid c.args.board.now) (g.B.Board.table c.args.board.now)
    c.args.part.now c.args.row c.loop-number.number c.loop-number.columns
    (c.is_empty-in-loop-number.ensures.none empty) c.loop-number.invariant.left

pub returns-then-height-below : goal.returns-then-height-below
returns-then-height-below g c =
    down-past (g.B.Board.grid c.args.board.now) (g.B.Board.table c.args.board.now)
    c.args.part.now c.args.row c.loop-number.number
    c.none.result c.loop-number-test.true (rw (← c.size-width.ensures.height, ← c.loop-number.invariant.below)
    c.if-height-below.true) c.none.ensures

pub loop-number-preserved : goal.loop-number-preserved
loop-number-preserved g c =
    let grid : Grid = g.B.Board.grid c.args.board.now in
    let part : List CompiledCell = c.args.part.now in
    let number : ℕ = c.loop-number.number in
    record {
      left =
          down-more grid (g.B.Board.table c.args.board.now) part c.args.row number c.loop-number.below
          c.index-part-number.result c.loop-number.columns c.scan.result c.both-columns.result
          (slice_get_read part (length part) number c.index-part-number.result refl c.loop-number-test.true
          c.index-part-number.is) c.loop-number-test.true
          (subst (λ (cell : CompiledCell). c.scan.result
          ≡ row_fits grid (meaning_of_mask (mask_shown cell.mask)) c.loop-number.below) (sym c.index-part-number.is)
          c.scan.ensures)
          c.loop-number.invariant.below c.both-columns.ensures c.loop-number.invariant.left;
      below = omega (arith, c.loop-number.invariant.below);
      room = omega (arith, c.loop-number.invariant.below, c.if-height-below.false, c.size-width.ensures.height);
    }

pub returns : goal.returns
returns g c =
    down-all (g.B.Board.grid c.args.board.now) (g.B.Board.table c.args.board.now)
    c.args.part.now c.args.row c.loop-number.number c.loop-number.columns
    (omega (arith, c.loop-number-test.false)) (omega (
      arith,
      c.loop-number-test.false,
      c.loop-number.invariant.room,
      c.loop-number.auto.number-end,
    )) c.loop-number.invariant.left
