-- Cells of a grid that are changed one after the other, in whatever order.
use Rattle.std.proofs.Common.{◌≡◌, ◌∙◌, ℕ, suc, ◌+◌, ◌*◌, ◌/◌, ◌%◌, ◌<◌, Bool, true, false, cond, List, [], ◌∷◌}
use Rattle.std.proofs.Common.{length, map, get_or, mod-lt, refl, sym, subst, ap, ap₂, arith}
use Rattle.std.specs.List.{list_any}
use Rattle.std.proofs.lemmas.List.{length-map}
use Rattle.std.proofs.lemmas.Nat.{div_below, div-add-mod'}
use Rattle.ps_model.specs.declared.pieces.Motion.{Motion}
use Rattle.ps_model.specs.declared.pieces.ObjectId.{ObjectId}
use Rattle.ps_model.specs.declared.pieces.Slot.{Slot}
use Rattle.ps_model.specs.declared.pieces.Slot.TheVariants.{Bare, Holds}
use Rattle.ps_model.specs.names.Names.{is_among}
use Rattle.ps_model.specs.board.Grid.{Grid, IsGrid, cell_at}
use Rattle.ps_board.specs.ColumnSets.{column_at}
use Rattle.ps_turn.specs.RowsOfCells.{NonePassOutside}
use Rattle.ps_turn.specs.Sweeps.{AreChanged, IsCellChanged, IsRowChanged, grid_with_cells, holds_any, slot_set_moving}
use Rattle.ps_turn.proofs.WhereObjectsStand.{slots_kept}

-- a motion given twice is given once
twice_by : (among : Bool) (motion was : Motion) → cond among motion (cond among motion was) ≡ cond among motion was
twice_by true motion was = refl
twice_by false motion was = refl

pub slot_again : (moved : List ObjectId) (motion : Motion) (slot : Slot) →
    slot_set_moving moved motion (slot_set_moving moved motion slot) ≡ slot_set_moving moved motion slot
slot_again moved motion Bare = refl
slot_again moved motion (Holds object was) = ap (Holds object) (twice_by (is_among moved object) motion was)

-- no cell is changed yet, and some are that were changed after others
pub none_changed : (change : List Slot → List Slot) (g : Grid) → AreChanged change g g
none_changed change g = record { sides = refl; all = refl; kept = λ cell is. is }

pub changed_then : (change : List Slot → List Slot) (before now after : Grid) → AreChanged change before now →
    AreChanged change now after →
    AreChanged change before after
changed_then change before now after first second =
    record {
      sides = second.sides ∙ ap (λ (g : Grid). grid_with_cells g after.cells) first.sides;
      all = second.all ∙ first.all;
      kept = λ cell is. second.kept cell (first.kept cell is);
    }

pub changed_width : (change : List Slot → List Slot) (before after : Grid) → AreChanged change before after →
    after.width ≡ before.width
changed_width change before after are = ap (λ (g : Grid). g.width) are.sides

pub changed_height : (change : List Slot → List Slot) (before after : Grid) → AreChanged change before after →
    after.height ≡ before.height
changed_height change before after are = ap (λ (g : Grid). g.height) are.sides

-- a row outside of those that may have one of the objects
pub row_kept : (moved : List ObjectId) (motion : Motion) (g : Grid) (rows : List Bool) →
    NonePassOutside (list_any (holds_any moved)) g rows → (row : ℕ) → row < g.height → column_at rows row ≡ false →
    IsRowChanged (map (slot_set_moving moved motion)) g g row
row_kept moved motion g rows none row low out x across =
    slots_kept moved motion (cell_at g (x * g.height + row)) (none row low out x across)

-- all cells are changed
pub map_fixed : {X : Type 0} (change : X → X) (d : X) (xs : List X) →
    ((n : ℕ) → n < length xs → change (get_or xs n d) ≡ get_or xs n d) → map change xs ≡ xs
map_fixed change d [] same = refl
map_fixed {X} change d (x ∷ xs) same =
    ap₂ (λ (y : X) (ys : List X). y ∷ ys) (same 0 (omega arith))
    (map_fixed change d xs (λ n low. same (suc n) (omega (arith, low))))

cell_fixed : (change : List Slot → List Slot) (sides g : Grid) → 0 < sides.height →
    ((row : ℕ) → row < sides.height → IsRowChanged change sides g row) →
    (n : ℕ) → n < sides.width * sides.height → IsCellChanged change g n
cell_fixed change sides g some rows n within =
    subst (λ (k : ℕ). IsCellChanged change g k) (div-add-mod' n sides.height)
    (rows (n % sides.height) (mod-lt n some) (n / sides.height) (div_below n sides.height sides.width some within))

pub all_rows_changed : (change : List Slot → List Slot) (before after : Grid) → IsGrid before →
    AreChanged change before after →
    ((row : ℕ) → row < before.height → IsRowChanged change before after row) →
    after ≡ grid_with_cells before (map change before.cells)
all_rows_changed change before after shape are rows =
    let long : length after.cells ≡ before.width * before.height =
    sym (length-map after.cells change) ∙ ap length are.all ∙ length-map before.cells change ∙ shape.cells in
    let fixed : map change after.cells ≡ after.cells =
    map_fixed change [] after.cells (λ n low. cell_fixed change before after shape.some_row rows n (rw (← long) low)) in
    are.sides ∙ ap (grid_with_cells before) (sym fixed ∙ are.all)
