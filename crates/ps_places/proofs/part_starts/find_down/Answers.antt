use Rattle.std.proofs.Common.{◌≡◌, ◌∙◌, ◌+◌, ◌<◌, ◌≤◌, ℕ, Bool, Some, List, [], length, refl, sym, subst, ap, arith}
use Rattle.std.specs.Prelude.{slice_get, slice_index_or}
use Rattle.std.proofs.lemmas.Option.{slice_get_read}
use Rattle.ps_model.specs.declared.limits.TheConstants.{SIDE_LIMIT}
use Rattle.ps_model.specs.board.Grid.{Grid}
use Rattle.ps_model.specs.meaning.RuleMeanings.{CellMeaning}
use Rattle.ps_board.specs.ColumnSets.{both_columns, columns_behind, row_fits}
use Rattle.ps_match.specs.InRoom.{meaning_of_mask}
use Rattle.ps_program.specs.ProgramShown.{mask_shown}
use Rattle.ps_program.specs.declared.cells.CompiledCell.{CompiledCell}
use Rattle.ps_places.proofs.PartColumns.{down-all, down-first, down-more, not_moved}
use Rattle.ps_places.proofs.part_starts.find_down.Goals as goal

pub loop-number-init : goal.loop-number-init
loop-number-init g c =
    let part : List CompiledCell = c.args.part.now in
    let first : slice_get part 0 ≡ Some c.index-part-0.result =
    slice_get_read part (length part) 0 c.index-part-0.result refl c.requires.whole c.index-part-0.is in
    let Scan : ℕ → CompiledCell → Type 0 = λ k cell. slice_index_or c.scan_rows.new.found k []
    ≡ row_fits (g.B.Board.grid c.args.board.now) (meaning_of_mask (mask_shown cell.mask)) (c.args.first + k) in
    record {
      left = λ k low.
          down-first (g.B.Board.grid c.args.board.now) (g.B.Board.table c.args.board.now) part (c.args.first + k)
          c.index-part-0.result (slice_index_or c.scan_rows.new.found k []) c.recall_shape.ensures.shape first
          c.requires.whole (subst (Scan k) (sym c.index-part-0.is) (c.scan_rows.ensures.found k low));
      long = c.scan_rows.ensures.long;
      room = c.requires.room;
      some = omega arith;
    }

pub returns-then-number-clause-begun : goal.returns-then-number-clause-begun
returns-then-number-clause-begun g c = λ k low.
    let few : (g.B.Board.grid c.args.board.now).height ≤ SIDE_LIMIT = c.recall_shape.ensures.shape.rows in
    let some : k < length c.args.starts.now = rw (← c.loop-number.invariant.long) low in
    absurd (omega (arith, few, some, c.requires.rows, c.loop-number-test.true, c.if-number.true))

pub loop-number-preserved : goal.loop-number-preserved
loop-number-preserved g c =
    let grid : Grid = g.B.Board.grid c.args.board.now in
    let part : List CompiledCell = c.args.part.now in
    let number : ℕ = c.loop-number.number in
    let at : slice_get part number ≡ Some c.index-part-number.result =
    slice_get_read part (length part) number c.index-part-number.result refl c.loop-number-test.true
    c.index-part-number.is in
    let scanned : List (List Bool) = c.scan_rows-in-loop-number.new.found in
    let long : length scanned ≡ length c.loop-number.starts =
    c.scan_rows-in-loop-number.ensures.long ∙ c.loop-number.invariant.room ∙ sym c.loop-number.invariant.long in
    let Scan : ℕ → CompiledCell → Type 0 = λ k cell. slice_index_or scanned k []
    ≡ row_fits grid (meaning_of_mask (mask_shown cell.mask)) (c.args.first + number + k) in
    record {
      left = λ k low.
          let here : k < length c.loop-number.starts = rw (← c.keep_behind.ensures.long) low in
          let there : k < length scanned = rw long here in
          let row : ℕ = c.args.first + k in
          let below : c.args.first + number + k ≡ row + number = omega arith in
          let meaning : CellMeaning = meaning_of_mask (mask_shown c.index-part-number.result.mask) in
          let is : slice_index_or scanned k [] ≡ row_fits grid meaning (c.args.first + number + k) =
          subst (Scan k) (sym c.index-part-number.is) (c.scan_rows-in-loop-number.ensures.found k there) in
          let still : columns_behind (slice_index_or scanned k []) 0 ≡ slice_index_or scanned k [] =
          ap (λ (cs : List Bool). columns_behind cs 0) is ∙ not_moved grid meaning (c.args.first + number + k)
          ∙ sym is in
          down-more grid (g.B.Board.table c.args.board.now) part row number (c.args.first + number + k)
          c.index-part-number.result (slice_index_or c.loop-number.starts k []) (slice_index_or scanned k [])
          (slice_index_or c.keep_behind.new.kept k []) at c.loop-number-test.true is below
          (c.keep_behind.ensures.kept k here ∙ ap (both_columns (slice_index_or c.loop-number.starts k [])) still)
          (c.loop-number.invariant.left k here);
      long = c.keep_behind.ensures.long ∙ c.loop-number.invariant.long;
      room = c.scan_rows-in-loop-number.ensures.long ∙ c.loop-number.invariant.room;
      some = omega arith;
    }

pub returns-clause-begun : goal.returns-clause-begun
returns-clause-begun g c = λ k low.
    let some : k < length c.args.starts.now = rw (← c.loop-number.invariant.long) low in
    down-all (g.B.Board.grid c.args.board.now) (g.B.Board.table c.args.board.now) c.args.part.now (c.args.first + k)
    c.loop-number.number (slice_index_or c.loop-number.starts k []) (omega (arith, c.loop-number-test.false))
    (omega (arith, some, c.requires.rows)) (c.loop-number.invariant.left k low)
