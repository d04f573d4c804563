-- Positions of parts that go right, row by row of the board.
use Rattle.std.proofs.Common.{◌≡◌, ◌≢◌, ◌∙◌, ℕ, ◌+◌, ◌*◌, ◌<◌, ◌≤◌, ◌&&◌, ◌||◌, inl, inr, Bool, true, false, Option}
use Rattle.std.proofs.Common.{List, [], ◌∷◌, length, get_or, refl, sym, ap, ap₂, arith}
use Rattle.std.specs.Prelude.{nat_eq, nat_le, slice_get, slice_set}
use Rattle.std.proofs.Math.Bool.{and-false}
use Rattle.std.proofs.lemmas.Bool.{and_parts, cases_eq, cases_lt}
use Rattle.std.proofs.lemmas.Bool.Decides.{nat_tests}
use Rattle.std.proofs.lemmas.List.{get_or-set_same, get_or-set_other}
use Rattle.std.proofs.lemmas.Option.{slice_get-get_or}
use Rattle.ps_model.specs.declared.limits.TheConstants.{SIDE_LIMIT}
use Rattle.ps_model.specs.board.Grid.{Grid, IsGrid}
use Rattle.ps_model.specs.board.Places.{fits_there}
use Rattle.ps_program.specs.declared.cells.CompiledCell.{CompiledCell}
use Rattle.ps_program.specs.declared.rows.Axis.TheVariants.{Right}
use Rattle.ps_program.specs.ProgramShown.{mask_shown}
use Rattle.ps_match.specs.InRoom.{meaning_of_mask}
use Rattle.ps_board.specs.ColumnSets.{both_columns, column_at, set_columns}
use Rattle.ps_board.proofs.ColumnLaws.{column_at-beyond, column_at-where, none_in}
use Rattle.ps_board.proofs.Taken.{taken_out}
use Rattle.ps_board.proofs.PassedColumns.{no_cell}
use Rattle.ps_places.specs.FoundStarts.{AreTakenOver, BeginsNowhere, IsPartFound, begins_on, set_of}
use Rattle.ps_places.specs.PartStarts.{AreStarts, columns_on, is_start}
use Rattle.ps_places.specs.RowsFound.{AreRowsBelow}
use Rattle.ps_places.specs.Lines.{part_fits}
use Rattle.ps_places.specs.Starts.{AreWhere}
use Rattle.ps_places.proofs.CellByCell.{fits_not, moved_on}
use Rattle.ps_places.proofs.LineSets.{other_place}

-- a part that goes right has room where it fits -----------------------------------------------------------------------

room_by : (g : Grid) (table : Option (List ℕ)) (part : List CompiledCell) (row x : ℕ) (room : Bool) →
    nat_le (x + length part) g.width ≡ room → IsGrid g → row < g.height → 0 < length part →
    part_fits g table Right row part x ≡ (room && part_fits g table Right row part x)
room_by g table part row x true t grid low some = refl
room_by g table [] row x false t grid low some = absurd (omega arith)
room_by g table (first ∷ part) row x false t grid low some =
    let last : ℕ = length part in
    let far : g.width ≤ x + last = grind (arith, nat_tests) in
    let within : last < length (first ∷ part) = omega arith in
    let c : CompiledCell = get_or (first ∷ part) last first in
    fits_not g table (first ∷ part) (x * g.height + row) g.height (length (first ∷ part)) last c
    (slice_get-get_or (first ∷ part) last first within) within
    (ap (λ (n : ℕ). fits_there (meaning_of_mask (mask_shown c.mask)) (slice_get g.cells n))
    (sym (moved_on x g.height row last))
    ∙ ap (fits_there (meaning_of_mask (mask_shown c.mask))) (no_cell g row (x + last) grid.cells far))

pub fits_with_room : (g : Grid) (table : Option (List ℕ)) (part : List CompiledCell) (row x : ℕ) → IsGrid g →
    row < g.height → 0 < length part →
    part_fits g table Right row part x ≡ begins_on g table Right row part x
fits_with_room g table part row x grid low some = room_by g table part row x
    (nat_le (x + length part) g.width) refl grid low some

pub begins-are : (g : Grid) (table : Option (List ℕ)) (part : List CompiledCell) (row : ℕ) (columns : List Bool) →
    IsGrid g → row < g.height → 0 < length part →
    AreWhere (part_fits g table Right row part) columns → AreWhere (begins_on g table Right row part) columns
begins-are g table part row columns grid low some are =
    record { at = λ x within. are.at x within ∙ fits_with_room g table part row x grid low some }

-- a row that isn't one of those on which a part begins
pub nowhere_in : (g : Grid) (table : Option (List ℕ)) (part : List CompiledCell) (rows : List Bool)
    (starts : List (List Bool)) (row : ℕ) → AreStarts g table Right part rows starts → row < g.height →
    column_at rows row ≡ false → BeginsNowhere g table Right part row
nowhere_in g table part rows starts row are low out =
    record {
      at = λ x near.
          ap (λ (b : Bool). nat_le (x + length part) g.width && b)
          (sym ((are.each row low).at x near)
          ∙ ap (λ (b : Bool). b && column_at (columns_on starts row) x) out)
          ∙ and-false (nat_le (x + length part) g.width);
    }

-- the sets taken over on some lines, but for those that are left ------------------------------------------------------

pub record AreTakenBut (rows : List Bool) (columns : List (List Bool)) (lines : List Bool) (count number : ℕ)
    (old new : List (List Bool)) (left : List Bool) : Type 0 where
  pub taken : (row x : ℕ) → row < SIDE_LIMIT → column_at lines row ≡ true → column_at left row ≡ false →
      column_at (set_of new count row number) x ≡ is_start rows columns row x
  pub others : (row other : ℕ) → other < count → other ≢ number →
      set_of new count row other ≡ set_of old count row other

pub taken-init : (rows : List Bool) (columns : List (List Bool)) (lines : List Bool) (count number : ℕ)
    (old : List (List Bool)) → AreTakenBut rows columns lines count number old old lines
taken-init rows columns lines count number old =
    record {
      taken = λ row x low on off. let clash : true ≡ false = sym on ∙ off in absurd (cc);
      others = λ row other low apart. refl;
    }

pub taken-more : (rows : List Bool) (columns : List (List Bool)) (lines : List Bool) (count number : ℕ)
    (old now : List (List Bool)) (left next set : List Bool) (row : ℕ) →
    number < count → row * count + number < length now → set_columns left ≡ row ∷ set_columns next →
    ((x : ℕ) → column_at set x ≡ is_start rows columns row x) →
    AreTakenBut rows columns lines count number old now left →
    AreTakenBut rows columns lines count number old (slice_set now (row * count + number) set) next
taken-more rows columns lines count number old now left next set row one room taken is before =
    record {
      taken = λ line x low on off. elim (cases_eq line row) [
        | inl same ↦
            rw same (ap (λ (s : List Bool). column_at s x)
            (get_or-set_same now (row * count + number) set [] room) ∙ is x)
        | inr apart ↦
            let t : nat_eq line row ≡ false = grind (arith, nat_tests, apart) in
            ap (λ (s : List Bool). column_at s x)
            (get_or-set_other now (row * count + number) (line * count + number) set []
            (other_place count line row number number one one (inl apart)))
            ∙ before.taken line x low on
            (taken_out left next row line taken low ∙ ap₂ (λ (a b : Bool). a || b) t off)
      ];
      others = λ line other low apart.
          get_or-set_other now (row * count + number) (line * count + other) set []
          (other_place count line row other number low one (inr apart))
          ∙ before.others line other low apart;
    }

pub taken-all : (rows : List Bool) (columns : List (List Bool)) (lines : List Bool) (count number : ℕ)
    (old new : List (List Bool)) (left : List Bool) → AreRowsBelow lines SIDE_LIMIT → set_columns left ≡ [] →
    AreTakenBut rows columns lines count number old new left → AreTakenOver rows columns lines count number old new
taken-all rows columns lines count number old new left low none before =
    record {
      taken = λ row x on. before.taken row x (low row on) on (none_in left row none (low row on));
      others = before.others;
    }

-- a part that goes right is found on the rows on which it begins
pub found-across : (g : Grid) (table : Option (List ℕ)) (part : List CompiledCell) (within rows lines : List Bool)
    (columns : List (List Bool)) (count number : ℕ) (old new : List (List Bool)) → IsGrid g → 0 < length part →
    ((x : ℕ) → column_at within x ≡ true → x < g.height) → AreStarts g table Right part rows columns →
    lines ≡ both_columns within rows → AreTakenOver rows columns lines count number old new →
    IsPartFound g table Right part within count number old new lines
found-across g table part within rows lines columns count number old new grid some inside are is over =
    record {
      begins = λ row on.
          let low : row < g.height = inside row (from_both row on).0 in
          begins-are g table part row (set_of new count row number) grid low some
          (record { at = λ x near. over.taken row x on ∙ (are.each row low).at x near });
      inside = λ row on. (from_both row on).0;
      none = λ row on out.
          let low : row < g.height = inside row on in
          nowhere_in g table part rows columns row are low
          (sym (ap (λ (b : Bool). b && column_at rows row) on)
          ∙ sym (both_of row (omega (arith, low, grid.rows))) ∙ out);
      others = over.others;
    } where
      both_of : (row : ℕ) → row < SIDE_LIMIT → column_at lines row ≡ (column_at within row && column_at rows row)
      both_of row low = ap (λ (cs : List Bool). column_at cs row) is
          ∙ column_at-where (λ y. column_at within y && column_at rows y) row low

      from_both : (row : ℕ) → column_at lines row ≡ true →
          (column_at within row ≡ true) × (column_at rows row ≡ true)
      from_both row on = elim (cases_lt row SIDE_LIMIT) [
        | inl low ↦ and_parts (column_at within row) (column_at rows row) (sym (both_of row low) ∙ on)
        | inr far ↦
            let clash : false ≡ true = sym (ap (λ (cs : List Bool). column_at cs row) is
            ∙ column_at-beyond (λ y. column_at within y && column_at rows y) row far) ∙ on in absurd (cc)
      ]

-- lines that are of a board have room for their sets
pub lines_below : (g : Grid) (within rows lines : List Bool) → IsGrid g →
    ((x : ℕ) → column_at within x ≡ true → x < g.height) → lines ≡ both_columns within rows →
    AreRowsBelow lines SIDE_LIMIT
lines_below g within rows lines grid inside is row on = elim (cases_lt row SIDE_LIMIT) [
  | inl low ↦ low
  | inr far ↦
      let clash : false ≡ true = sym (ap (λ (cs : List Bool). column_at cs row) is
      ∙ column_at-beyond (λ y. column_at within y && column_at rows y) row far) ∙ on in absurd (cc)
]
