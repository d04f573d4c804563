use Rattle.std.proofs.Common.{◌≡◌, ℕ, true, List, length, refl, rules, arith, subst, sym}
use Rattle.std.proofs.lemmas.Option.{slice_get-get_or, slice_get_read}
use Rattle.ps_model.specs.board.Grid.{Grid}
use Rattle.ps_board.specs.ColumnSets.{row_fits}
use Rattle.ps_match.specs.InRoom.{meaning_of_mask}
use Rattle.ps_program.specs.ProgramShown.{mask_shown}
use Rattle.ps_program.specs.declared.cells.CompiledCell.{CompiledCell}
use Rattle.ps_places.proofs.PartColumns.{across-all, across-first, across-more, across-none, across-past}
use Rattle.ps_places.proofs.columns.columns_across.Goals as goal

pub loop-number-init : goal.loop-number-init
loop-number-init g c =
    let grid : Grid = g.B.Board.grid c.args.board.now in
    let part : List CompiledCell = c.args.part.now in
    record {
      left = across-first grid (g.B.Board.table c.args.board.now) part c.args.row c.index-part-0.result
          c.scan-columns.result c.recall_shape.ensures.shape
          (slice_get_read part (length part) 0 c.index-part-0.result refl c.requires.whole c.index-part-0.is)
          c.requires.whole
          (subst (λ (cell : CompiledCell). c.scan-columns.result
          ≡ row_fits grid (meaning_of_mask (mask_shown cell.mask)) c.args.row) (sym c.index-part-0.is)
          c.scan-columns.ensures);
      some = omega arith;
    }

pub returns-then-is_empty : goal.returns-then-is_empty
returns-then-is_empty g c =
    let empty : c.is_empty.result ≡ true = search rules in
    across-none (g.B.Board.grid c.args.board.now) (g.B.Board.table c.args.board.now)
    c.args.part.now c.args.row c.loop-number.number c.loop-number.columns
    (c.is_empty.ensures.none empty) c.loop-number.invariant.left

pub returns-then-number : goal.returns-then-number
returns-then-number g c =
    let part : List CompiledCell = c.args.part.now in
    let number : ℕ = c.loop-number.number in
    across-past (g.B.Board.grid c.args.board.now) (g.B.Board.table c.args.board.now) part c.args.row number _
    c.loop-number.columns c.none.result c.recall_shape.ensures.shape
    (slice_get-get_or part number c.index-part-0.result c.loop-number-test.true) c.loop-number-test.true
    c.if-number.true c.none.ensures c.loop-number.invariant.left

pub loop-number-preserved : goal.loop-number-preserved
loop-number-preserved g c =
    let grid : Grid = g.B.Board.grid c.args.board.now in
    let part : List CompiledCell = c.args.part.now in
    let number : ℕ = c.loop-number.number in
    record {
      left =
          across-more grid (g.B.Board.table c.args.board.now) part c.args.row number c.index-part-number.result
          c.loop-number.columns c.scan.result c.behind.result c.both-columns.result c.recall_shape.ensures.shape
          (slice_get_read part (length part) number c.index-part-number.result refl c.loop-number-test.true
          c.index-part-number.is) c.loop-number-test.true
          (subst (λ (cell : CompiledCell). c.scan.result
          ≡ row_fits grid (meaning_of_mask (mask_shown cell.mask)) c.args.row) (sym c.index-part-number.is)
          c.scan.ensures)
          c.behind.ensures c.both-columns.ensures c.loop-number.invariant.left;
      some = omega arith;
    }

pub returns : goal.returns
returns g c =
    across-all (g.B.Board.grid c.args.board.now) (g.B.Board.table c.args.board.now)
    c.args.part.now c.args.row c.loop-number.number c.loop-number.columns
    (omega (arith, c.loop-number-test.false)) c.loop-number.invariant.left
