use Rattle.std.proofs.Common.{◌≡◌, ◌∙◌, ◌+◌, ◌<◌, ℕ, Bool, Some, List, [], length, refl, sym, subst, ap, arith}
use Rattle.std.specs.Prelude.{slice_get, slice_index_or}
use Rattle.std.proofs.lemmas.List.{get_or-replicate, length-replicate}
use Rattle.std.proofs.lemmas.Option.{slice_get-get_or, slice_get_read}
use Rattle.ps_model.specs.board.Grid.{Grid}
use Rattle.ps_board.specs.ColumnSets.{columns_behind, no_columns, row_fits}
use Rattle.ps_match.specs.InRoom.{meaning_of_mask}
use Rattle.ps_program.specs.ProgramShown.{mask_shown}
use Rattle.ps_program.specs.declared.cells.CompiledCell.{CompiledCell}
use Rattle.ps_places.proofs.PartColumns.{across-all, across-first, across-more, across-past}
use Rattle.ps_places.proofs.part_starts.find_across.Goals as goal

pub loop-number-init : goal.loop-number-init
loop-number-init g c =
    let part : List CompiledCell = c.args.part.now in
    let first : slice_get part 0 ≡ Some c.index-part-0.result =
    slice_get_read part (length part) 0 c.index-part-0.result refl c.requires.whole c.index-part-0.is in
    let Scan : ℕ → CompiledCell → Type 0 = λ k cell. slice_index_or c.scan_rows.new.found k []
    ≡ row_fits (g.B.Board.grid c.args.board.now) (meaning_of_mask (mask_shown cell.mask)) (c.args.first + k) in
    record {
      left = λ k low.
          across-first (g.B.Board.grid c.args.board.now) (g.B.Board.table c.args.board.now) part (c.args.first + k)
          c.index-part-0.result (slice_index_or c.scan_rows.new.found k []) c.recall_shape.ensures.shape first
          c.requires.whole (subst (Scan k) (sym c.index-part-0.is) (c.scan_rows.ensures.found k low));
      long = c.scan_rows.ensures.long;
      room = c.requires.room;
      some = omega arith;
    }

pub returns-then-number-clause-begun : goal.returns-then-number-clause-begun
returns-then-number-clause-begun g c = λ k low.
    let part : List CompiledCell = c.args.part.now in
    let count : ℕ = length c.loop-number.starts in
    let here : k < count = rw (← length-replicate count no_columns, ← c.clear.ensures) low in
    let number : ℕ = c.loop-number.number in
    let cell : CompiledCell = slice_index_or part number c.index-part-0.result in
    let at : slice_get part number ≡ Some cell =
    slice_get-get_or part number c.index-part-0.result c.loop-number-test.true in
    across-past (g.B.Board.grid c.args.board.now) (g.B.Board.table c.args.board.now) part (c.args.first + k)
    number cell (slice_index_or c.loop-number.starts k []) (slice_index_or c.clear.new.sets k [])
    c.recall_shape.ensures.shape at c.loop-number-test.true c.if-number.true
    (ap (λ (sets : List (List Bool)). slice_index_or sets k []) c.clear.ensures
    ∙ get_or-replicate count k no_columns [] here)
    (c.loop-number.invariant.left k here)

pub loop-number-preserved : goal.loop-number-preserved
loop-number-preserved g c =
    let grid : Grid = g.B.Board.grid c.args.board.now in
    let part : List CompiledCell = c.args.part.now in
    let number : ℕ = c.loop-number.number in
    let at : slice_get part number ≡ Some c.index-part-number.result =
    slice_get_read part (length part) number c.index-part-number.result refl c.loop-number-test.true
    c.index-part-number.is in
    let scanned : List (List Bool) = c.scan_rows-in-loop-number.new.found in
    let long : length scanned ≡ length c.loop-number.starts =
    c.scan_rows-in-loop-number.ensures.long ∙ c.loop-number.invariant.room ∙ sym c.loop-number.invariant.long in
    let Scan : ℕ → CompiledCell → Type 0 = λ k cell. slice_index_or scanned k []
    ≡ row_fits grid (meaning_of_mask (mask_shown cell.mask)) (c.args.first + k) in
    record {
      left = λ k low.
          let here : k < length c.loop-number.starts = rw (← c.keep_behind.ensures.long) low in
          let there : k < length scanned = rw long here in
          across-more grid (g.B.Board.table c.args.board.now) part (c.args.first + k) number c.index-part-number.result
          (slice_index_or c.loop-number.starts k []) (slice_index_or scanned k [])
          (columns_behind (slice_index_or scanned k []) number) (slice_index_or c.keep_behind.new.kept k [])
          c.recall_shape.ensures.shape at c.loop-number-test.true (subst (Scan k) (sym c.index-part-number.is)
          (c.scan_rows-in-loop-number.ensures.found k there)) refl
          (c.keep_behind.ensures.kept k here) (c.loop-number.invariant.left k here);
      long = c.keep_behind.ensures.long ∙ c.loop-number.invariant.long;
      room = c.scan_rows-in-loop-number.ensures.long ∙ c.loop-number.invariant.room;
      some = omega arith;
    }

pub returns-clause-begun : goal.returns-clause-begun
returns-clause-begun g c = λ k low.
    across-all (g.B.Board.grid c.args.board.now) (g.B.Board.table c.args.board.now) c.args.part.now (c.args.first + k)
    c.loop-number.number (slice_index_or c.loop-number.starts k []) (omega (arith, c.loop-number-test.false))
    (c.loop-number.invariant.left k low)
