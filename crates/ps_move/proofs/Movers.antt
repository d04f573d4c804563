-- Columns and rows in which objects of a layer are about to do something.
use Rattle.std.proofs.Common.{◌≡◌, ◌∙◌, ℕ, ◌+◌, ◌*◌, ◌<◌, ◌≤◌, ◌/◌, ◌%◌, ◌&&◌, inl, inr, Bool, false, List, [], Some}
use Rattle.std.proofs.Common.{length, refl, sym, ap, arith, subst}
use Rattle.std.specs.Prelude.{nat_lt}
use Rattle.std.proofs.Math.Nat.{mod-lt, mul-le-mul}
use Rattle.std.proofs.lemmas.Bool.{cases_Bool}
use Rattle.std.proofs.lemmas.Bool.Decides.{nat_tests}
use Rattle.std.proofs.lemmas.List.{get_or_past}
use Rattle.std.proofs.lemmas.Nat.{div-add-mod', div_below}
use Rattle.ps_model.specs.declared.pieces.Slot.TheVariants.{Bare}
use Rattle.ps_model.specs.board.Grid.{Grid, IsGrid, slot_at}
use Rattle.ps_model.specs.board.Movement.{target}
use Rattle.ps_board.specs.ColumnSets.{both_columns, column_at, columns_below, set_columns}
use Rattle.ps_board.specs.RowsOfGrids.{MoveOnlyOn, is_moving, row_movers}
use Rattle.ps_board.proofs.ColumnLaws.{column_at-where, none_in}
use Rattle.ps_board.proofs.AllRows.{none_outside}
use Rattle.ps_board.proofs.EmptySets.{at_both}
use Rattle.ps_move.specs.Parts.{IsBelow, IsStuckRow}
use Rattle.ps_move.proofs.Ends.{aims_within}
use Rattle.ps_move.proofs.Parts.{still_aims_nowhere, still_stuck}

-- a row in whose columns beside these the objects of a layer are still
abbrev pub IsStillRow : Grid → ℕ → List Bool → ℕ → Type 0
IsStillRow g layer columns row =
    (column : ℕ) → column < g.width → column_at columns column ≡ false →
    is_moving (slot_at g (column * g.height + row) layer) ≡ false

-- no mover stands beyond the last column
pub movers_below : (g : Grid) (layer row : ℕ) → IsGrid g → IsBelow g.width (row_movers g layer row)
movers_below g layer row shape = λ x low far.
    let cells : g.width * g.height ≤ x * g.height =
    mul-le-mul far (let le : g.height ≤ g.height = omega arith in le) in
    let past : length g.cells ≤ x * g.height + row = omega (arith, shape.cells, cells) in
    let bare : slot_at g (x * g.height + row) layer ≡ Bare =
    rw (get_or_past g.cells (x * g.height + row) [] past) refl in
    column_at-where (λ y. is_moving (slot_at g (y * g.height + row) layer)) x low ∙ ap is_moving bare

-- beside the movers of a row all are still
pub movers_beside : (g : Grid) (layer row : ℕ) → IsGrid g → IsStillRow g layer (row_movers g layer row) row
movers_beside g layer row shape = λ column across out.
    sym (column_at-where (λ y. is_moving (slot_at g (y * g.height + row) layer)) column
    (omega (arith, across, shape.columns))) ∙ out

pub below_both : (count : ℕ) (set other both : List Bool) → both ≡ both_columns set other → IsBelow count set →
    IsBelow count both
below_both count set other both e below = λ x low far.
    at_both set other both x e low ∙ ap (λ (t : Bool). t && column_at other x) (below x low far)

-- what moves in the rows of two sets alone moves in those alone that are in both
pub moves_in_both : (g : Grid) (layer : ℕ) (set other both : List Bool) → IsGrid g → both ≡ both_columns set other →
    MoveOnlyOn g layer set → MoveOnlyOn g layer other → MoveOnlyOn g layer both
moves_in_both g layer set other both shape e one two = λ row down out x across.
    let here : (column_at set row && column_at other row) ≡ false =
    sym (at_both set other both row e (omega (arith, down, shape.rows))) ∙ out in
    elim (cases_Bool (column_at set row)) [
      | inl on ↦ two row down (sym (ap (λ (t : Bool). t && column_at other row) on) ∙ here) x across
      | inr off ↦ one row down off x across
    ]

-- all rows of a grid
pub moves_in_all : (g : Grid) (layer : ℕ) (rows : List Bool) → IsGrid g → rows ≡ columns_below g.height →
    MoveOnlyOn g layer rows
moves_in_all g layer rows shape all = λ row down out x across.
    absurd (none_outside g.height rows shape.rows all row down out)

pub all_below : (count : ℕ) (rows : List Bool) → rows ≡ columns_below count → IsBelow count rows
all_below count rows all = λ x low far.
    let out : nat_lt x count ≡ false = grind (arith, nat_tests, far) in
    ap (λ (cs : List Bool). column_at cs x) all ∙ column_at-where (λ y. nat_lt y count) x low ∙ out

-- in the rows that aren't in a set of those in which something moves nothing can go
pub stuck_beside : (g : Grid) (layer : ℕ) (rows : List Bool) → MoveOnlyOn g layer rows → (row : ℕ) → row < g.height →
    column_at rows row ≡ false → IsStuckRow g layer row
stuck_beside g layer rows outside row down out = λ column across.
    still_stuck g layer (column * g.height + row) (outside row down out column across)

-- where that set is empty no object wants to go anywhere
pub none_moves : (g : Grid) (layer : ℕ) (rows : List Bool) → IsGrid g → MoveOnlyOn g layer rows →
    set_columns rows ≡ [] → (from to : ℕ) → target g layer from ≡ Some to → ⊥
none_moves g layer rows shape outside empty from to aims =
    let within = aims_within g layer from to shape aims in
    let column : ℕ = from / g.height in
    let row : ℕ = from % g.height in
    let across : column < g.width = div_below from g.height g.width shape.some_row within in
    let down : row < g.height = mod-lt from shape.some_row in
    let same : column * g.height + row ≡ from = div-add-mod' from g.height in
    let still : is_moving (slot_at g (column * g.height + row) layer) ≡ false =
    outside row down (none_in rows row empty (omega (arith, down, shape.rows))) column across in
    still_aims_nowhere g layer from to (subst (λ (cell : ℕ). is_moving (slot_at g cell layer) ≡ false) same still) aims
