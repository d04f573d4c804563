-- A row of which one column is written comes to one cell written.
use Rattle.std.proofs.Common.{◌≡◌, ◌≢◌, ◌∙◌, ℕ, ◌*◌, ◌/◌, ◌%◌, ◌<◌, ◌≤◌, ◌&&◌, ◌||◌, inl, inr, Bool, false, true}
use Rattle.std.proofs.Common.{not, List, [], length, refl, sym, ap, ap₂, arith}
use Rattle.std.specs.Prelude.{nat_eq, slice_get, slice_set}
use Rattle.std.proofs.lemmas.Bool.{cases_eq, eq-eqb, ne_eqb}
use Rattle.std.proofs.lemmas.Option.{slice_get-get_or}
use Rattle.ps_model.specs.declared.pieces.Slot.{Slot}
use Rattle.ps_model.specs.board.Attempts.{Rewritten, rewritten_cell, same_cell}
use Rattle.ps_model.specs.board.Grid.{Grid, cell_at}
use Rattle.ps_model.specs.meaning.Compiled.{CellWrite, cell_written}
use Rattle.ps_match.specs.InRoom.{meaning_of_write}
use Rattle.ps_match.specs.Together.{rewritten_where}
use Rattle.ps_match.proofs.Chosen.{rewritten_of, where-agree, where-one}
use Rattle.ps_match.proofs.RowWritten.{cell_known}
use Rattle.ps_rows.specs.SlotsWritten.{in_columns}
use Rattle.ps_board.proofs.ColumnLaws.{with_here, with_other}
use Rattle.ps_rows.proofs.Sets.{none_at}
use Rattle.ps_rows.proofs.Whole.{columns_low}
use Rattle.ps_board.specs.ColumnSets.{column_at, no_columns, with_column}
use Rattle.ps_model.specs.declared.limits.TheConstants.{SIDE_LIMIT}

-- the set of one column
abbrev pub column_alone : ℕ → List Bool
column_alone column = with_column no_columns column true

alone_at : (column x : ℕ) → x < SIDE_LIMIT → column_at (column_alone column) x ≡ nat_eq x column
alone_at column x low = elim (cases_eq x column) [
  | inl e ↦ rw e (with_here no_columns column true (omega (arith, low, e)) ∙ sym (eq-eqb column column refl))
  | inr other ↦ with_other no_columns column x true low other ∙ none_at x ∙ sym (ne_eqb x column other)
]

pub alone_within : (width column : ℕ) → column < width → (x : ℕ) → width ≤ x → x < SIDE_LIMIT →
    column_at (column_alone column) x ≡ false
alone_within width column across x far low =
    let apart : x ≢ column = omega (arith, across, far) in
    alone_at column x low ∙ ne_eqb x column apart

-- the cell of its row and its column, and no other one
cell_alone : (height cell n : ℕ) → n / height < SIDE_LIMIT →
    in_columns height (cell % height) (column_alone (cell / height)) n ≡ nat_eq n cell
cell_alone height cell n under =
    ap (λ (b : Bool). nat_eq (n % height) (cell % height) && b) (alone_at (cell / height) (n / height) under)
    ∙ elim (cases_eq n cell) [
      | inl e ↦ rw (
        e,
        eq-eqb (cell % height) (cell % height) refl,
        eq-eqb (cell / height) (cell / height) refl,
        eq-eqb cell cell refl,
      ) refl
      | inr other ↦ elim (cases_eq (n % height) (cell % height)) [
        | inl row ↦
            let apart : n / height ≢ cell / height = λ column. other (cell_known height n cell row column) in
            rw (eq-eqb (n % height) (cell % height) row, ne_eqb (n / height) (cell / height) apart, ne_eqb n cell other)
            refl
        | inr row ↦ rw (ne_eqb (n % height) (cell % height) row, ne_eqb n cell other) refl
      ]
    ]

module _ (g : Grid) (cell : ℕ) (some : 0 < g.height) (narrow : g.width ≤ SIDE_LIMIT)
    (long : length g.cells ≡ g.width * g.height) (inside : cell < g.width * g.height) where
  one_rewritten : (becomes : List Slot → List Slot) →
      rewritten_where g becomes (in_columns g.height (cell % g.height) (column_alone (cell / g.height)))
      ≡ rewritten_of g (slice_set g.cells cell (becomes (cell_at g cell)))
      (not (same_cell (cell_at g cell) (becomes (cell_at g cell))))
  one_rewritten becomes =
      where-agree g becomes (in_columns g.height (cell % g.height) (column_alone (cell / g.height)))
      (λ n. nat_eq n cell)
      (λ n low. cell_alone g.height cell n
      (columns_low g.width g.height some narrow n (rw (← long) low)))
      ∙ where-one g becomes cell (rw long inside)

  pub cell_rewritten : (write : CellWrite) (changed here : Bool) (next : Grid) →
      record { grid = next; changed = here } ≡ rewritten_where g (cell_written write)
      (in_columns g.height (cell % g.height) (column_alone (cell / g.height))) →
      record { grid = next; changed = changed || here } ≡ rewritten_cell (record { grid = g; changed = changed })
      (meaning_of_write write) cell (slice_get g.cells cell)
  cell_rewritten write changed here next told =
      let one = told ∙ one_rewritten (cell_written write) in
      let low : cell < length g.cells = rw long inside in
      let before : Rewritten = record { grid = g; changed = changed } in
      ap₂ (λ (k : Grid) (b : Bool). let r : Rewritten = record { grid = k; changed = b } in r)
      (ap (λ (r : Rewritten). r.grid) one) (ap (λ (r : Rewritten). changed || r.changed) one)
      ∙ sym (ap (rewritten_cell before (meaning_of_write write) cell) (slice_get-get_or g.cells cell [] low))
