-- Where parts begin on a row of the board, column by column.
use Rattle.std.proofs.Common.{◌≡◌, ◌∙◌, ℕ, ◌+◌, ◌-◌, ◌*◌, ◌<◌, ◌≤◌, ◌&&◌, Bool, true, false, Option, Some, List, []}
use Rattle.std.proofs.Common.{◌∷◌}
use Rattle.std.proofs.Common.{length, map, refl, sym, ap, ap₂, arith}
use Rattle.std.specs.Prelude.{nat_le, nat_lt, slice_get}
use Rattle.std.specs.List.{range_with_len}
use Rattle.std.proofs.Math.Bool.{and-false, and-true, and_assoc}
use Rattle.std.proofs.lemmas.Bool.Decides.{nat_tests}
use Rattle.ps_model.specs.declared.limits.TheConstants.{SIDE_LIMIT}
use Rattle.ps_model.specs.board.Grid.{Grid, IsGrid}
use Rattle.ps_model.specs.board.Places.{fits_along, fits_there}
use Rattle.ps_model.specs.meaning.RuleMeanings.{CellMeaning}
use Rattle.ps_program.specs.declared.cells.CellMask.{CellMask}
use Rattle.ps_program.specs.declared.cells.CompiledCell.{CompiledCell}
use Rattle.ps_program.specs.declared.rows.Axis.TheVariants.{Down, Right}
use Rattle.ps_program.specs.ProgramShown.{mask_shown}
use Rattle.ps_match.specs.InRoom.{meaning_of_mask}
use Rattle.ps_board.specs.ColumnSets.{column_at, set_columns, no_columns, columns_below, both_columns, columns_behind}
use Rattle.ps_board.specs.ColumnSets.{row_fits}
use Rattle.ps_board.proofs.ColumnLaws.{column_at-where, column_at-all, columns-agree, none_in}
use Rattle.ps_board.proofs.PassedColumns.{no_cell}
use Rattle.ps_places.specs.Lines.{part_fits, part_meaning}
use Rattle.ps_places.specs.Starts.{AreWhere, begins_down}
use Rattle.ps_places.proofs.CellByCell.{fits_from, fits_from-by, fits_from-end, fits_from-off, moved_on}

-- both of two tests
and_swap : (a b c d : Bool) → ((a && b) && (c && d)) ≡ (a && (c && (b && d)))
and_swap true true c d = refl
and_swap true false true d = refl
and_swap true false false d = refl
and_swap false b c d = refl

-- what a row's scan says of any column
pub in_row : (g : Grid) (meaning : CellMeaning) (row x : ℕ) → IsGrid g →
    column_at (row_fits g meaning row) x ≡ fits_there meaning (slice_get g.cells (x * g.height + row))
in_row g meaning row x shape =
    column_at-all (λ y. fits_there meaning (slice_get g.cells (y * g.height + row))) x
    (λ far. ap (fits_there meaning) (no_cell g row x shape.cells (omega (arith, far, shape.columns))))

-- parts that go right -------------------------------------------------------------------------------------------------

abbrev pub rest_across : Grid → Option (List ℕ) → List CompiledCell → ℕ → ℕ → ℕ → Bool
rest_across g table part row index x = fits_from g table part (λ k. x * g.height + row + k * g.height)
    (length part) index

-- the columns that are left, and what the part still lacks
pub record AreLeftAcross (g : Grid) (table : Option (List ℕ)) (part : List CompiledCell) (row : ℕ) (columns : List Bool)
    (index : ℕ) : Type 0 where
  pub at : (x : ℕ) → x < SIDE_LIMIT → (column_at columns x && rest_across g table part row index x)
      ≡ part_fits g table Right row part x

-- the cell at an index, so many columns on
abbrev pub cell_across : Grid → CellMask → ℕ → ℕ → ℕ → Bool
cell_across g mask row index x = fits_there (meaning_of_mask (mask_shown mask))
    (slice_get g.cells (x * g.height + row + index * g.height))

-- it doesn't fit beyond the width
cell_off : (g : Grid) (mask : CellMask) (row index x : ℕ) → IsGrid g → g.width ≤ x + index →
    cell_across g mask row index x ≡ false
cell_off g mask row index x grid far =
    ap (λ (n : ℕ). fits_there (meaning_of_mask (mask_shown mask)) (slice_get g.cells n))
    (sym (moved_on x g.height row index))
    ∙ ap (fits_there (meaning_of_mask (mask_shown mask))) (no_cell g row (x + index) grid.cells far)

-- the first cell alone
pub across-first : (g : Grid) (table : Option (List ℕ)) (part : List CompiledCell) (row : ℕ) (c : CompiledCell)
    (scan : List Bool) → IsGrid g → slice_get part 0 ≡ Some c → 0 < length part →
    scan ≡ row_fits g (meaning_of_mask (mask_shown c.mask)) row → AreLeftAcross g table part row scan 1
across-first g table part row c scan grid e h is =
    record {
      at = λ x low.
          let all : length part - 0 ≡ length part = omega arith in
          let here : x * g.height + row ≡ x * g.height + row + 0 * g.height = omega arith in
          ap (λ (b : Bool). b && rest_across g table part row 1 x)
          (ap (λ (cs : List Bool). column_at cs x) is ∙ in_row g (meaning_of_mask (mask_shown c.mask)) row x grid
          ∙ ap (λ (n : ℕ). fits_there (meaning_of_mask (mask_shown c.mask)) (slice_get g.cells n)) here)
          ∙ sym (fits_from-by g table part (λ k. x * g.height + row + k * g.height) (length part) 0 c
          (cell_across g c.mask row 0 x) e h refl)
          ∙ ap (λ (n : ℕ). fits_along g (part_meaning table part)
          (map (λ k. x * g.height + row + k * g.height) (range_with_len 0 n))) all;
    }

none_across : (g : Grid) (table : Option (List ℕ)) (part : List CompiledCell) (row x : ℕ) → IsGrid g →
    0 < length part → g.width ≤ x → rest_across g table part row 0 x ≡ false
none_across g table [] row x grid some far = absurd (omega (arith, some))
none_across g table (c ∷ cells) row x grid some far =
    fits_from-off g table (c ∷ cells) (λ k. x * g.height + row + k * g.height) (length (c ∷ cells)) 0 c refl some
    (cell_off g c.mask row 0 x grid (omega (arith, far)))

-- a part that has a cell begins on no column beyond the width
begun_across : (g : Grid) (table : Option (List ℕ)) (part : List CompiledCell) (row limit x : ℕ) (here : Bool) →
    nat_lt x limit ≡ here → IsGrid g → 0 < length part → g.width ≤ limit →
    (here && rest_across g table part row 0 x) ≡ rest_across g table part row 0 x
begun_across g table part row limit x true t grid some room = refl
begun_across g table part row limit x false t grid some room =
    let far : limit ≤ x = grind (arith, nat_tests) in
    sym (none_across g table part row x grid some (omega (arith, far, room)))

pub across-init : (g : Grid) (table : Option (List ℕ)) (part : List CompiledCell) (row : ℕ) (columns : List Bool)
    {limit : ℕ} → IsGrid g → 0 < length part → g.width ≤ limit → columns ≡ columns_below limit →
    AreLeftAcross g table part row columns 0
across-init g table part row columns {limit} grid some room is =
    record {
      at = λ x low.
          let all : length part - 0 ≡ length part = omega arith in
          ap (λ (b : Bool). b && rest_across g table part row 0 x)
          (ap (λ (cs : List Bool). column_at cs x) is ∙ column_at-where (λ y. nat_lt y limit) x low)
          ∙ begun_across g table part row limit x (nat_lt x limit) refl grid some room
          ∙ ap (λ (n : ℕ). fits_along g (part_meaning table part)
          (map (λ k. x * g.height + row + k * g.height) (range_with_len 0 n))) all;
    }

scanned_across : (g : Grid) (mask : CellMask) (row index x : ℕ) (scan moved : List Bool) → IsGrid g →
    scan ≡ row_fits g (meaning_of_mask (mask_shown mask)) row →
    moved ≡ columns_behind scan index → x < SIDE_LIMIT → column_at moved x ≡ cell_across g mask row index x
scanned_across g mask row index x scan moved grid is m low =
    ap (λ (cs : List Bool). column_at cs x) (m ∙ ap (λ (cs : List Bool). columns_behind cs index) is)
    ∙ column_at-where (λ y. column_at (row_fits g (meaning_of_mask (mask_shown mask)) row) (y + index)) x low
    ∙ in_row g (meaning_of_mask (mask_shown mask)) row (x + index) grid
    ∙ ap (λ (n : ℕ). fits_there (meaning_of_mask (mask_shown mask)) (slice_get g.cells n))
    (moved_on x g.height row index)

pub across-more : (g : Grid) (table : Option (List ℕ)) (part : List CompiledCell) (row index : ℕ) (c : CompiledCell)
    (columns scan moved more : List Bool) → IsGrid g →
    slice_get part index ≡ Some c → index < length part → scan ≡ row_fits g (meaning_of_mask (mask_shown c.mask)) row →
    moved ≡ columns_behind scan index → more ≡ both_columns columns moved →
    AreLeftAcross g table part row columns index → AreLeftAcross g table part row more (index + 1)
across-more g table part row index c columns scan moved more grid e h is m both left =
    record {
      at = λ x low.
          ap (λ (b : Bool). b && rest_across g table part row (index + 1) x)
          (ap (λ (cs : List Bool). column_at cs x) both
          ∙ column_at-where (λ y. column_at columns y && column_at moved y) x low
          ∙ ap (λ (b : Bool). column_at columns x && b) (scanned_across g c.mask row index x scan moved grid is m low))
          ∙ and_assoc (column_at columns x) (cell_across g c.mask row index x)
          (rest_across g table part row (index + 1) x)
          ∙ ap (λ (b : Bool). column_at columns x && b)
          (sym (fits_from-by g table part (λ k. x * g.height + row + k * g.height) (length part) index c
          (cell_across g c.mask row index x) e h refl))
          ∙ left.at x low;
    }

pub across-none : (g : Grid) (table : Option (List ℕ)) (part : List CompiledCell) (row index : ℕ)
    (columns : List Bool) → set_columns columns ≡ [] →
    AreLeftAcross g table part row columns index → AreWhere (part_fits g table Right row part) columns
across-none g table part row index columns none left =
    record {
      at = λ x low.
          let no : column_at columns x ≡ false = none_in columns x none low in
          no ∙ sym (ap (λ (b : Bool). b && rest_across g table part row index x) no) ∙ left.at x low;
    }

-- a cell as many columns on as the board has at most doesn't fit
pub across-past : (g : Grid) (table : Option (List ℕ)) (part : List CompiledCell) (row index : ℕ) (c : CompiledCell)
    (columns none : List Bool) → IsGrid g →
    slice_get part index ≡ Some c → index < length part → SIDE_LIMIT ≤ index → none ≡ no_columns →
    AreLeftAcross g table part row columns index → AreWhere (part_fits g table Right row part) none
across-past g table part row index c columns none grid e h far is left =
    record {
      at = λ x low.
          let off : cell_across g c.mask row index x ≡ false =
          cell_off g c.mask row index x grid (omega (arith, far, grid.columns)) in
          ap (λ (cs : List Bool). column_at cs x) is ∙ column_at-where (λ y. false) x low
          ∙ sym (ap (λ (b : Bool). column_at columns x && b)
          (fits_from-off g table part (λ k. x * g.height + row + k * g.height) (length part) index c e h off)
          ∙ and-false (column_at columns x))
          ∙ left.at x low;
    }

pub across-all : (g : Grid) (table : Option (List ℕ)) (part : List CompiledCell) (row index : ℕ) (columns : List Bool) →
    length part ≤ index →
    AreLeftAcross g table part row columns index → AreWhere (part_fits g table Right row part) columns
across-all g table part row index columns all left =
    record {
      at = λ x low.
          sym (ap (λ (b : Bool). column_at columns x && b)
          (fits_from-end g table part (λ k. x * g.height + row + k * g.height) (length part) index refl all)
          ∙ and-true (column_at columns x))
          ∙ left.at x low;
    }

-- parts that go down --------------------------------------------------------------------------------------------------

abbrev pub rest_down : Grid → Option (List ℕ) → List CompiledCell → ℕ → ℕ → ℕ → Bool
rest_down g table part row index x = fits_from g table part (λ k. x * g.height + row + k * 1) (length part) index

pub record AreLeftDown (g : Grid) (table : Option (List ℕ)) (part : List CompiledCell) (row : ℕ) (columns : List Bool)
    (index : ℕ) : Type 0 where
  pub at : (x : ℕ) → x < SIDE_LIMIT → (column_at columns x &&
      (nat_le (row + length part) g.height && rest_down g table part row index x)) ≡ begins_down g table part row x

pub down-init : (g : Grid) (table : Option (List ℕ)) (part : List CompiledCell) (row : ℕ) (columns : List Bool) →
    columns ≡ columns_below g.width → AreLeftDown g table part row columns 0
down-init g table part row columns is =
    record {
      at = λ x low.
          let all : length part - 0 ≡ length part = omega arith in
          ap₂ (λ (b : Bool) (n : ℕ). b && (nat_le (row + length part) g.height && fits_along g (part_meaning table part)
          (map (λ k. x * g.height + row + k * 1) (range_with_len 0 n))))
          (ap (λ (cs : List Bool). column_at cs x) is ∙ column_at-where (λ y. nat_lt y g.width) x low) all;
    }

abbrev pub cell_down : Grid → CellMask → ℕ → ℕ → ℕ → Bool
cell_down g mask row index x = fits_there (meaning_of_mask (mask_shown mask))
    (slice_get g.cells (x * g.height + row + index * 1))

scanned_down : (g : Grid) (mask : CellMask) (row index below x : ℕ) (scan : List Bool) →
    scan ≡ row_fits g (meaning_of_mask (mask_shown mask)) below →
    below ≡ row + index → x < SIDE_LIMIT → column_at scan x ≡ cell_down g mask row index x
scanned_down g mask row index below x scan is here low =
    let same : x * g.height + below ≡ x * g.height + row + index * 1 = omega (arith, here) in
    ap (λ (cs : List Bool). column_at cs x) is
    ∙ column_at-where (λ y. fits_there (meaning_of_mask (mask_shown mask)) (slice_get g.cells (y * g.height + below)))
    x low
    ∙ ap (λ (n : ℕ). fits_there (meaning_of_mask (mask_shown mask)) (slice_get g.cells n)) same

-- the first cell alone
and_turn : (inside fits room rest : Bool) → (inside ≡ false → fits ≡ false) →
    (fits && (room && rest)) ≡ (inside && (room && (fits && rest)))
and_turn true true room rest out = refl
and_turn true false room rest out = sym (and-false room)
and_turn false fits room rest out = ap (λ (b : Bool). b && (room && rest)) (out refl)

pub down-first : (g : Grid) (table : Option (List ℕ)) (part : List CompiledCell) (row : ℕ) (c : CompiledCell)
    (scan : List Bool) → IsGrid g → slice_get part 0 ≡ Some c → 0 < length part →
    scan ≡ row_fits g (meaning_of_mask (mask_shown c.mask)) row → AreLeftDown g table part row scan 1
down-first g table part row c scan grid e h is =
    record {
      at = λ x low.
          let all : length part - 0 ≡ length part = omega arith in
          let here : x * g.height + row ≡ x * g.height + row + 0 * 1 = omega arith in
          let meaning : CellMeaning = meaning_of_mask (mask_shown c.mask) in
          let room : Bool = nat_le (row + length part) g.height in
          let fits : Bool = fits_there meaning (slice_get g.cells (x * g.height + row)) in
          ap (λ (b : Bool). b && (room && rest_down g table part row 1 x))
          (ap (λ (cs : List Bool). column_at cs x) is ∙ in_row g meaning row x grid)
          ∙ and_turn (nat_lt x g.width) fits room (rest_down g table part row 1 x)
          (λ off. let far : g.width ≤ x = grind (arith, nat_tests, off) in
          ap (fits_there meaning) (no_cell g row x grid.cells far))
          ∙ ap (λ (b : Bool). nat_lt x g.width && (room && b))
          (ap (λ (n : ℕ). fits_there meaning (slice_get g.cells n) && rest_down g table part row 1 x) here
          ∙ sym (fits_from-by g table part (λ k. x * g.height + row + k * 1) (length part) 0 c
          (cell_down g c.mask row 0 x) e h refl)
          ∙ ap (λ (n : ℕ). fits_along g (part_meaning table part)
          (map (λ k. x * g.height + row + k * 1) (range_with_len 0 n))) all);
    }

-- a row's scan moved by no column
pub not_moved : (g : Grid) (meaning : CellMeaning) (row : ℕ) →
    columns_behind (row_fits g meaning row) 0 ≡ row_fits g meaning row
not_moved g meaning row =
    columns-agree (λ x. column_at (row_fits g meaning row) (x + 0))
    (λ x. fits_there meaning (slice_get g.cells (x * g.height + row)))
    (λ x low.
    let same : x + 0 ≡ x = omega arith in
    ap (column_at (row_fits g meaning row)) same
    ∙ column_at-where (λ y. fits_there meaning (slice_get g.cells (y * g.height + row))) x low)

pub down-more : (g : Grid) (table : Option (List ℕ)) (part : List CompiledCell) (row index below : ℕ) (c : CompiledCell)
    (columns scan more : List Bool) →
    slice_get part index ≡ Some c → index < length part →
    scan ≡ row_fits g (meaning_of_mask (mask_shown c.mask)) below → below ≡ row + index →
    more ≡ both_columns columns scan →
    AreLeftDown g table part row columns index → AreLeftDown g table part row more (index + 1)
down-more g table part row index below c columns scan more e h is here both left =
    record {
      at = λ x low.
          ap (λ (b : Bool). b && (nat_le (row + length part) g.height && rest_down g table part row (index + 1) x))
          (ap (λ (cs : List Bool). column_at cs x) both
          ∙ column_at-where (λ y. column_at columns y && column_at scan y) x low
          ∙ ap (λ (b : Bool). column_at columns x && b) (scanned_down g c.mask row index below x scan is here low))
          ∙ and_swap (column_at columns x) (cell_down g c.mask row index x) (nat_le (row + length part) g.height)
          (rest_down g table part row (index + 1) x)
          ∙ ap (λ (b : Bool). column_at columns x && (nat_le (row + length part) g.height && b))
          (sym (fits_from-by g table part (λ k. x * g.height + row + k * 1) (length part) index c
          (cell_down g c.mask row index x) e h refl))
          ∙ left.at x low;
    }

pub down-none : (g : Grid) (table : Option (List ℕ)) (part : List CompiledCell) (row index : ℕ) (columns : List Bool) →
    set_columns columns ≡ [] →
    AreLeftDown g table part row columns index → AreWhere (begins_down g table part row) columns
down-none g table part row index columns none left =
    record {
      at = λ x low.
          let no : column_at columns x ≡ false = none_in columns x none low in
          no ∙ sym (ap (λ (b : Bool). b && (nat_le (row + length part) g.height && rest_down g table part row index x))
          no) ∙ left.at x low;
    }

-- there is no room to the lower edge
pub down-past : (g : Grid) (table : Option (List ℕ)) (part : List CompiledCell) (row index : ℕ) (none : List Bool) →
    index < length part → g.height ≤ row + index → none ≡ no_columns →
    AreWhere (begins_down g table part row) none
down-past g table part row index none h far is =
    record {
      at = λ x low.
          let off : nat_le (row + length part) g.height ≡ false = grind (arith, nat_tests, h, far) in
          ap (λ (cs : List Bool). column_at cs x) is ∙ column_at-where (λ y. false) x low
          ∙ sym (ap (λ (b : Bool). nat_lt x g.width && (b && part_fits g table Down x part row)) off
          ∙ and-false (nat_lt x g.width));
    }

pub down-all : (g : Grid) (table : Option (List ℕ)) (part : List CompiledCell) (row index : ℕ) (columns : List Bool) →
    length part ≤ index → row + length part ≤ g.height →
    AreLeftDown g table part row columns index → AreWhere (begins_down g table part row) columns
down-all g table part row index columns all room left =
    record {
      at = λ x low.
          let fits : nat_le (row + length part) g.height ≡ true = grind (arith, nat_tests, room) in
          sym (ap₂ (λ (b c : Bool). column_at columns x && (b && c)) fits
          (fits_from-end g table part (λ k. x * g.height + row + k * 1) (length part) index refl all)
          ∙ and-true (column_at columns x))
          ∙ left.at x low;
    }
