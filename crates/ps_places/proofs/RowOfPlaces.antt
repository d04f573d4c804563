-- The places of a part that begin on one row of the board, written one cell of the part after the other.
use Rattle.std.proofs.Common.{◌≡◌, ◌∙◌, ℕ, zero, suc, ◌+◌, ◌-◌, ◌*◌, ◌<◌, ◌&&◌, inl, inr, Bool, true, false, Option}
use Rattle.std.proofs.Common.{Some, List, [], ◌∷◌, length, refl, sym, ap, arith}
use Rattle.std.specs.Prelude.{slice_get}
use Rattle.std.proofs.lemmas.Bool.{cases_Bool}
use Rattle.std.proofs.lemmas.List.{length-map}
use Rattle.std.proofs.lemmas.Option.{slice_get_within}
use Rattle.ps_model.specs.declared.pieces.Slot.{Slot}
use Rattle.ps_model.specs.board.Grid.{Grid}
use Rattle.ps_model.specs.board.Attempts.{Rewritten}
use Rattle.ps_program.specs.declared.cells.CompiledCell.{CompiledCell}
use Rattle.ps_program.specs.declared.rows.Axis.{Axis}
use Rattle.ps_places.specs.Lines.{cell_meaning, part_meaning, step_along}
use Rattle.ps_places.specs.WrittenTogether.{cell_changed, cells_behind, cells_changed, if_changes, then_where}
use Rattle.ps_places.proofs.InGroups.{AreAlone, cell_now, covers, during, idle_step, next_step}
use Rattle.ps_places.proofs.StartNumbers.{changes_in, changes_of}
use Rattle.ps_places.proofs.WrittenAs.{as_then, height-as}

meaning_at : (t : Option (List ℕ)) (cells : List CompiledCell) (k : ℕ) (one : CompiledCell) →
    slice_get cells k ≡ Some one →
    slice_get (part_meaning t cells) k ≡ Some (cell_meaning t one)
meaning_at t [] k one e = absurd (cc)
meaning_at t (c ∷ cells) zero one e = let same : c ≡ one = cc in
    ap (λ (x : CompiledCell). Some (cell_meaning t x)) same
meaning_at t (c ∷ cells) (suc k) one e = meaning_at t cells k one e

module _ (g : Grid) (table : Option (List ℕ)) (axis : Axis) (part : List CompiledCell) (row : ℕ) (columns : List Bool)
    (begins : ℕ → Bool)
    (apart : AreAlone begins (step_along axis g.height) (part_meaning table part) (changes_of part))
    (done now : ℕ → Bool) (fresh : (n : ℕ) → now n ≡ true → done n ≡ false)
    (here : (i n : ℕ) → n < length g.cells → i < length part →
    cells_behind axis g.height row columns i n
    ≡ (covers begins (step_along axis g.height) i n && now (n - i * step_along axis g.height))) where
  -- some places are done, and of those on the row the cells before an index
  abbrev pub row_done : ℕ → Rewritten
  row_done i = during g begins (step_along axis g.height) (part_meaning table part) (changes_of part) apart done now i

  -- what becomes of a cell of the board
  abbrev cell_done : ℕ → ℕ → List Slot
  cell_done i = cell_now g begins (step_along axis g.height) (part_meaning table part) (changes_of part) apart done now
      i

  cell_step : (i : ℕ) (cell : CompiledCell) → slice_get part i ≡ Some cell →
      cell_changed (row_done i) table axis row columns i cell ≡ row_done (i + 1)
  cell_step i cell is = elim (cases_Bool cell.changes) [
    | inl does ↦
        let few : i < length part = slice_get_within part i cell is in
        let size : length (part_meaning table part) ≡ length part = length-map part (cell_meaning table) in
        let chosen : ℕ → Bool = cells_behind axis g.height row columns i in
        let on_index : changes_of part i ≡ true = ap changes_in is ∙ does in
        ap (λ (b : Bool). if_changes b (then_where (row_done i) (cell_meaning table cell).rewritten
        (cells_behind axis (row_done i).grid.height row columns i)) (row_done i)) does
        ∙ (ap (λ (h : ℕ). then_where (row_done i) (cell_meaning table cell).rewritten
        (cells_behind axis h row columns i)) (height-as g (cell_done i))
        ∙ as_then g (cell_done i) (cell_done (i + 1)) (cell_meaning table cell).rewritten chosen
        (λ n low.
        next_step g begins (step_along axis g.height) (part_meaning table part) (changes_of part) apart done now
        fresh i (cell_meaning table cell) (omega (arith, few, size)) (meaning_at table part i cell is) chosen n
        (here i n low few
        ∙ ap (λ (b : Bool). (b && covers begins (step_along axis g.height) i n) && now
        (n - i * step_along axis g.height)) (sym on_index))))
    | inr not_does ↦
        let off : changes_of part i ≡ false = ap changes_in is ∙ not_does in
        ap (λ (b : Bool). if_changes b (then_where (row_done i) (cell_meaning table cell).rewritten
        (cells_behind axis (row_done i).grid.height row columns i)) (row_done i)) not_does
        ∙ idle_step g begins (step_along axis g.height) (part_meaning table part) (changes_of part) apart done now i off
  ]

  cells_step : (i : ℕ) (cells : List CompiledCell) →
      ((j : ℕ) (cell : CompiledCell) → slice_get cells j ≡ Some cell → slice_get part (i + j) ≡ Some cell) →
      cells_changed (row_done i) table axis row columns i cells ≡ row_done (i + length cells)
  cells_step i [] same = let none : i + 0 ≡ i = omega arith in rw none refl
  cells_step i (cell ∷ cells) same =
      let at : i + 0 ≡ i = omega arith in
      let is : slice_get part i ≡ Some cell = ap (slice_get part) (sym at) ∙ same 0 cell refl in
      let end : i + 1 + length cells ≡ i + suc (length cells) = omega arith in
      ap (λ (r : Rewritten). cells_changed r table axis row columns (i + 1) cells) (cell_step i cell is)
      ∙ cells_step (i + 1) cells
      (λ j other there. let next : i + 1 + j ≡ i + suc j = omega arith in ap (slice_get part) next
      ∙ same (suc j) other there)
      ∙ ap row_done end

  -- all of its cells
  pub row_written : cells_changed (row_done 0) table axis row columns 0 part
      ≡ row_done (length (part_meaning table part))
  row_written =
      let size : length (part_meaning table part) ≡ length part = length-map part (cell_meaning table) in
      let all : 0 + length part ≡ length (part_meaning table part) = omega (arith, size) in
      cells_step 0 part (λ j cell there. let at : 0 + j ≡ j = omega arith in ap (slice_get part) at ∙ there)
      ∙ ap row_done all
