-- Rows of the board outside of which a cell of a rule doesn't fit, or a part doesn't begin.
use Rattle.std.proofs.Common.{◌≡◌, ◌∙◌, ℕ, ◌+◌, ◌*◌, ◌<◌, ◌≤◌, ◌&&◌, ◌⊎◌, inl, inr, suc, zero, Bool, true, false}
use Rattle.std.proofs.Common.{Option, Some, None, List, [], ◌∷◌, length, refl, sym, ap, arith}
use Rattle.std.specs.Prelude.{not, nat_lt, slice_get}
use Rattle.std.specs.List.{list_all, list_any}
use Rattle.std.proofs.Math.Bool.{and-false}
use Rattle.std.proofs.lemmas.Bool.{cases_lt, and_cases}
use Rattle.std.proofs.lemmas.Bool.Decides.{nat_tests}
use Rattle.std.proofs.lemmas.Option.{get_or_from_slice_get}
use Rattle.ps_model.specs.declared.limits.TheConstants.{SIDE_LIMIT}
use Rattle.ps_model.specs.declared.compiled.LayeredObject.{LayeredObject}
use Rattle.ps_model.specs.declared.compiled.MotionTest.{MotionTest}
use Rattle.ps_model.specs.declared.pieces.Slot.{Slot}
use Rattle.ps_model.specs.board.Grid.{Grid, IsGrid, cell_at}
use Rattle.ps_model.specs.board.Places.{fits_along, fits_there}
use Rattle.ps_model.specs.meaning.Compiled.{is_held_in, moves_as_asked}
use Rattle.ps_program.specs.declared.cells.CellMask.{CellMask}
use Rattle.ps_program.specs.declared.cells.CompiledCell.{CompiledCell}
use Rattle.ps_program.specs.declared.rows.Axis.{Axis}
use Rattle.ps_program.specs.declared.rows.Axis.TheVariants.{Down, Right}
use Rattle.ps_program.specs.ProgramShown.{mask_shown}
use Rattle.ps_match.specs.InRoom.{meaning_of_mask}
use Rattle.ps_match.specs.Nowhere.{HasMovesIn, HasRowsIn}
use Rattle.ps_board.specs.ColumnSets.{column_at, columns_below, both_columns, columns_behind}
use Rattle.ps_board.proofs.ColumnLaws.{column_at-where}
use Rattle.ps_board.proofs.PassedColumns.{no_cell}
use Rattle.ps_places.specs.Candidates.{FitsOnlyOn, BeginsOnlyOn}
use Rattle.ps_places.specs.CellCandidates.{HasCellOnlyOn}
use Rattle.ps_places.specs.Lines.{cells_from, part_meaning, step_along}
use Rattle.ps_places.proofs.CellByCell.{fits_not, moved_on}

-- no row of the grid is left out of all of them
pub not_left_out : (g : Grid) (limit : ℕ) (rows : List Bool) (row : ℕ) → IsGrid g → g.height ≤ limit →
    rows ≡ columns_below limit → row < g.height → column_at rows row ≡ false → true ≡ false
not_left_out g limit rows row grid room is low out =
    let near : row < limit = omega (arith, low, room) in
    let within : nat_lt row limit ≡ true = grind (arith, nat_tests, near) in
    sym within
    ∙ sym (ap (λ (cs : List Bool). column_at cs row) is
    ∙ column_at-where (λ y. nat_lt y limit) row (omega (arith, low, grid.rows)))
    ∙ out

-- a row that isn't in both sets is missing in one of them
pub missing : (rows others both : List Bool) (row : ℕ) → both ≡ both_columns rows others → row < SIDE_LIMIT →
    column_at both row ≡ false → (column_at rows row ≡ false) ⊎ (column_at others row ≡ false)
missing rows others both row is low out =
    and_cases (column_at rows row) (column_at others row)
    (sym (ap (λ (cs : List Bool). column_at cs row) is
    ∙ column_at-where (λ y. column_at rows y && column_at others y) row low) ∙ out)

-- a mask --------------------------------------------------------------------------------------------------------------

not_all : (slots : List Slot) (object : LayeredObject) → is_held_in slots object ≡ false →
    (needed : List LayeredObject) (k : ℕ) → slice_get needed k ≡ Some object →
    list_all (is_held_in slots) needed ≡ false
not_all slots object off [] k e = absurd (cc)
not_all slots object off (first ∷ needed) zero e =
    let is : first ≡ object = cc in ap (λ (b : Bool). b && list_all (is_held_in slots) needed)
    (ap (is_held_in slots) is ∙ off)
not_all slots object off (first ∷ needed) (suc k) e =
    ap (λ (b : Bool). is_held_in slots first && b) (not_all slots object off needed k e)
    ∙ and-false (is_held_in slots first)

mask_off : (mask : CellMask) (slots : List Slot) (object : LayeredObject) (k : ℕ) → is_held_in slots object ≡ false →
    slice_get mask.needed k ≡ Some object →
    (list_all (is_held_in slots) mask.needed
    && (not (list_any (is_held_in slots) mask.barred) &&
    (list_all (λ objects. list_any (is_held_in slots) objects) mask.one_of && list_all
    (moves_as_asked slots) mask.motions)))
    ≡ false
mask_off mask slots object k off needs =
    ap (λ (b : Bool). b
    && (not (list_any (is_held_in slots) mask.barred) &&
    (list_all (λ objects. list_any (is_held_in slots) objects) mask.one_of && list_all
    (moves_as_asked slots) mask.motions)))
    (not_all slots object off mask.needed k needs)

-- a cell without one of the objects that the mask needs doesn't fit
cell_off : (g : Grid) (mask : CellMask) (object : LayeredObject) (k number : ℕ) (found : Option (List Slot)) →
    slice_get mask.needed k ≡ Some object → is_held_in (cell_at g number) object ≡ false →
    slice_get g.cells number ≡ found → fits_there (meaning_of_mask (mask_shown mask)) found ≡ false
cell_off g mask object k number None needs off e = refl
cell_off g mask object k number (Some slots) needs off e =
    let same : cell_at g number ≡ slots = get_or_from_slice_get g.cells number slots [] e in
    mask_off mask slots object k (ap (λ (s : List Slot). is_held_in s object) (sym same) ∙ off) needs

pub mask-init : (g : Grid) (mask : CellMask) {limit : ℕ} (rows : List Bool) → IsGrid g → g.height ≤ limit →
    rows ≡ columns_below limit → FitsOnlyOn g mask rows
mask-init g mask {limit} rows grid room is = record {
  at = λ row x low out. let clash : true ≡ false =
      not_left_out g limit rows row grid room is low out in absurd (cc);
}

-- one object that the mask needs, alone
pub mask-first : (g : Grid) (mask : CellMask) (object : LayeredObject) (having : List Bool) →
    slice_get mask.needed 0 ≡ Some object → HasRowsIn g object having → FitsOnlyOn g mask having
mask-first g mask object having needs has =
    record {
      at = λ row x low out. cell_off g mask object 0 (x * g.height + row) (slice_get g.cells (x * g.height + row)) needs
          (has row low out x) refl;
    }

mask_by : (g : Grid) (mask : CellMask) (object : LayeredObject) (k row x : ℕ) (rows having : List Bool) →
    slice_get mask.needed k ≡ Some object → HasRowsIn g object having → FitsOnlyOn g mask rows →
    row < g.height → (column_at rows row ≡ false) ⊎ (column_at having row ≡ false) →
    fits_there (meaning_of_mask (mask_shown mask)) (slice_get g.cells (x * g.height + row)) ≡ false
mask_by g mask object k row x rows having needs has only low (inl out) = only.at row x low out
mask_by g mask object k row x rows having needs has only low (inr out) =
    cell_off g mask object k (x * g.height + row) (slice_get g.cells (x * g.height + row)) needs
    (has row low out x) refl

pub mask-more : (g : Grid) (mask : CellMask) (object : LayeredObject) (k : ℕ) (rows having both : List Bool) →
    IsGrid g → slice_get mask.needed k ≡ Some object → HasRowsIn g object having →
    both ≡ both_columns rows having → FitsOnlyOn g mask rows → FitsOnlyOn g mask both
mask-more g mask object k rows having both grid needs has is only =
    record {
      at = λ row x low out. mask_by g mask object k row x rows having needs has only low
          (missing rows having both row is (omega (arith, low, grid.rows)) out);
    }

-- a layer that doesn't move as it is asked for
not_all_move : (slots : List Slot) (test : MotionTest) → moves_as_asked slots test ≡ false →
    (tests : List MotionTest) (k : ℕ) → slice_get tests k ≡ Some test → list_all (moves_as_asked slots) tests ≡ false
not_all_move slots test off [] k e = absurd (cc)
not_all_move slots test off (first ∷ tests) zero e =
    let is : first ≡ test = cc in ap (λ (b : Bool). b && list_all (moves_as_asked slots) tests)
    (ap (moves_as_asked slots) is ∙ off)
not_all_move slots test off (first ∷ tests) (suc k) e =
    ap (λ (b : Bool). moves_as_asked slots first && b) (not_all_move slots test off tests k e)
    ∙ and-false (moves_as_asked slots first)

pub last_off : (a b c d : Bool) → d ≡ false → (a && (b && (c && d))) ≡ false
last_off true true true d e = e
last_off true true false d e = refl
last_off true false c d e = refl
last_off false b c d e = refl

-- a cell without one of the motions that the mask asks for doesn't fit
cell_still : (g : Grid) (mask : CellMask) (test : MotionTest) (k number : ℕ) (found : Option (List Slot)) →
    slice_get mask.motions k ≡ Some test → moves_as_asked (cell_at g number) test ≡ false →
    slice_get g.cells number ≡ found → fits_there (meaning_of_mask (mask_shown mask)) found ≡ false
cell_still g mask test k number None asks off e = refl
cell_still g mask test k number (Some slots) asks off e =
    let same : cell_at g number ≡ slots = get_or_from_slice_get g.cells number slots [] e in
    last_off (list_all (is_held_in slots) mask.needed) (not (list_any (is_held_in slots) mask.barred))
    (list_all (λ objects. list_any (is_held_in slots) objects) mask.one_of)
    (list_all (moves_as_asked slots) mask.motions)
    (not_all_move slots test (ap (λ (s : List Slot). moves_as_asked s test) (sym same) ∙ off) mask.motions k asks)

motion_by : (g : Grid) (mask : CellMask) (test : MotionTest) (k row x : ℕ) (rows moving : List Bool) → IsGrid g →
    slice_get mask.motions k ≡ Some test → HasMovesIn g test moving →
    FitsOnlyOn g mask rows → row < g.height → (column_at rows row ≡ false) ⊎ (column_at moving row ≡ false) →
    fits_there (meaning_of_mask (mask_shown mask)) (slice_get g.cells (x * g.height + row)) ≡ false
motion_by g mask test k row x rows moving grid asks has only low (inl out) = only.at row x low out
motion_by g mask test k row x rows moving grid asks has only low (inr out) = elim (cases_lt x g.width) [
  | inl across ↦ cell_still g mask test k (x * g.height + row) (slice_get g.cells (x * g.height + row)) asks
      (has row low out x across) refl
  | inr far ↦ ap (fits_there (meaning_of_mask (mask_shown mask))) (no_cell g row x grid.cells far)
]

pub motion-more : (g : Grid) (mask : CellMask) (test : MotionTest) (k : ℕ) (rows moving both : List Bool) → IsGrid g →
    slice_get mask.motions k ≡ Some test → HasMovesIn g test moving →
    both ≡ both_columns rows moving → FitsOnlyOn g mask rows → FitsOnlyOn g mask both
motion-more g mask test k rows moving both grid asks has is only =
    record {
      at = λ row x low out. motion_by g mask test k row x rows moving grid asks has only low
          (missing rows moving both row is (omega (arith, low, grid.rows)) out);
    }

-- the cells of a part -------------------------------------------------------------------------------------------------

pub cell-right : (g : Grid) (mask : CellMask) (steps : ℕ) (rows : List Bool) → FitsOnlyOn g mask rows →
    HasCellOnlyOn g mask Right steps rows
cell-right g mask steps rows only =
    record {
      at = λ row x low room out.
          ap (λ (m : ℕ). fits_there (meaning_of_mask (mask_shown mask)) (slice_get g.cells m))
          (sym (moved_on x g.height row steps))
          ∙ only.at row (x + steps) low out;
    }

pub cell-down : (g : Grid) (mask : CellMask) (steps : ℕ) (rows behind : List Bool) → IsGrid g →
    behind ≡ columns_behind rows steps → FitsOnlyOn g mask rows →
    HasCellOnlyOn g mask Down steps behind
cell-down g mask steps rows behind grid is only =
    record {
      at = λ row x low room out.
          let here : row + steps < g.height = room refl in
          let far : column_at rows (row + steps) ≡ false =
          sym (ap (λ (cs : List Bool). column_at cs row) is
          ∙ column_at-where (λ y. column_at rows (y + steps)) row (omega (arith, low, grid.rows))) ∙ out in
          let same : x * g.height + row + steps * 1 ≡ x * g.height + (row + steps) = omega arith in
          ap (λ (m : ℕ). fits_there (meaning_of_mask (mask_shown mask)) (slice_get g.cells m)) same
          ∙ only.at (row + steps) x here far;
    }

pub begin-init : (g : Grid) (table : Option (List ℕ)) (axis : Axis) (part : List CompiledCell) (rows : List Bool) →
    {limit : ℕ} → IsGrid g → g.height ≤ limit → rows ≡ columns_below limit →
    BeginsOnlyOn g table axis part rows
begin-init g table axis part rows {limit} grid room is =
    record {
      at = λ row x low fits out. let clash : true ≡ false =
          not_left_out g limit rows row grid room is low out in absurd (cc);
    }

begin_by : (g : Grid) (table : Option (List ℕ)) (axis : Axis) (part : List CompiledCell) (index row x : ℕ)
    (c : CompiledCell) (rows own : List Bool) →
    slice_get part index ≡ Some c → index < length part → HasCellOnlyOn g c.mask axis index own →
    BeginsOnlyOn g table axis part rows → row < g.height →
    (axis ≡ Down → row + length part ≤ g.height) → (column_at rows row ≡ false) ⊎ (column_at own row ≡ false) →
    fits_along g (part_meaning table part) (cells_from (step_along axis g.height) (x * g.height + row) (length part))
    ≡ false
begin_by g table axis part index row x c rows own e low has only high room (inl out) = only.at row x high room out
begin_by g table axis part index row x c rows own e low has only high room (inr out) =
    fits_not g table part (x * g.height + row) (step_along axis g.height) (length part) index c e low
    (has.at row x high (λ down. let all : row + length part ≤ g.height = room down in omega (arith, all, low)) out)

pub begin-more : (g : Grid) (table : Option (List ℕ)) (axis : Axis) (part : List CompiledCell) (index : ℕ)
    (c : CompiledCell) (rows own both : List Bool) → IsGrid g →
    slice_get part index ≡ Some c → index < length part → HasCellOnlyOn g c.mask axis index own →
    both ≡ both_columns rows own → BeginsOnlyOn g table axis part rows →
    BeginsOnlyOn g table axis part both
begin-more g table axis part index c rows own both grid e low has is only =
    record {
      at = λ row x high room out.
          begin_by g table axis part index row x c rows own e low has only high room
          (missing rows own both row is (omega (arith, high, grid.rows)) out);
    }

-- a part's first cell alone
more_none : (a n : ℕ) → a + 0 * n ≡ a
more_none a n = omega arith

pub begin-first : (g : Grid) (table : Option (List ℕ)) (axis : Axis) (part : List CompiledCell) (c : CompiledCell)
    (rows : List Bool) → slice_get part 0 ≡ Some c → 0 < length part → FitsOnlyOn g c.mask rows →
    BeginsOnlyOn g table axis part rows
begin-first g table axis part c rows e low only =
    record {
      at = λ row x high room out.
          fits_not g table part (x * g.height + row) (step_along axis g.height) (length part) 0 c e low
          (ap (λ (m : ℕ). fits_there (meaning_of_mask (mask_shown c.mask)) (slice_get g.cells m))
          (more_none (x * g.height + row) (step_along axis g.height))
          ∙ only.at row x high out);
    }

-- rows for which a set has room
pub begin-within : (g : Grid) (table : Option (List ℕ)) (axis : Axis) (part : List CompiledCell) {limit : ℕ}
    (rows all both : List Bool) → IsGrid g → g.height ≤ limit → all ≡ columns_below limit →
    both ≡ both_columns rows all → BeginsOnlyOn g table axis part rows → BeginsOnlyOn g table axis part both
begin-within g table axis part {limit} rows all both grid room is joined only =
    record {
      at = λ row x low fits out.
          elim (missing rows all both row joined (omega (arith, low, grid.rows)) out) [
            | inl off ↦ only.at row x low fits off
            | inr off ↦
                let clash : true ≡ false = not_left_out g limit all row grid room is low off in absurd (cc)
          ];
    }
