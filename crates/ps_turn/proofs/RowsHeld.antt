-- Rows of a grid outside of which no cell has what is asked for.
use Rattle.std.proofs.Common.{◌≡◌, ◌∙◌, ℕ, ◌+◌, ◌*◌, ◌<◌, ◌&&◌, ◌||◌, Bool, true, false, List, [], ◌∷◌, length, take}
use Rattle.std.proofs.Common.{get_or, refl, sym, ap, ap₂, arith}
use Rattle.std.specs.Prelude.{nat_lt}
use Rattle.std.specs.List.{list_any}
use Rattle.std.proofs.Math.Bool.{and-false}
use Rattle.std.proofs.lemmas.Bool.Decides.{nat_tests}
use Rattle.std.proofs.lemmas.List.Folds.{list_any_more}
use Rattle.std.proofs.lemmas.Bool.{or_parts}
use Rattle.ps_model.specs.declared.limits.TheConstants.{SIDE_LIMIT}
use Rattle.ps_model.specs.declared.pieces.ObjectId.{ObjectId}
use Rattle.ps_model.specs.declared.pieces.Slot.{Slot}
use Rattle.ps_model.specs.board.Grid.{Grid, IsGrid, cell_at}
use Rattle.ps_model.specs.meaning.Compiled.{slot_holds}
use Rattle.ps_laws.proofs.common.Truths.{or_across}
use Rattle.ps_board.specs.ColumnSets.{both_columns, column_at, columns_below, either_columns, no_columns}
use Rattle.ps_board.specs.RowsOfGrids.{PassOnlyOn}
use Rattle.ps_board.proofs.ColumnLaws.{column_at-where, columns-agree}
use Rattle.ps_turn.specs.RowsOfCells.{NonePassOutside, has_each, row_cells}
use Rattle.ps_turn.specs.Sweeps.{holds_any}
use Rattle.ps_turn.proofs.RowsOfCells.{each_more, rows_either}

-- slots that pass neither of two tests
none_of_both : (p q r : Slot → Bool) (cell : List Slot) → ((slot : Slot) → r slot ≡ (p slot || q slot)) →
    list_any p cell ≡ false → list_any q cell ≡ false → list_any r cell ≡ false
none_of_both p q r [] e off none = refl
none_of_both p q r (slot ∷ cell) e off none =
    let a = or_parts (p slot) (list_any p cell) off in
    let b = or_parts (q slot) (list_any q cell) none in
    ap₂ (λ (x y : Bool). x || y) (e slot ∙ ap₂ (λ (x y : Bool). x || y) a.0 b.0) (none_of_both p q r cell e a.1 b.1)

holds_none : (cell : List Slot) → list_any (holds_any []) cell ≡ false
holds_none [] = refl
holds_none (slot ∷ cell) = holds_none cell

-- slots that pass one of two tests
some_of_both : (p q r : Slot → Bool) (cell : List Slot) → ((slot : Slot) → r slot ≡ (p slot || q slot)) →
    (list_any p cell || list_any q cell) ≡ list_any r cell
some_of_both p q r [] e = refl
some_of_both p q r (slot ∷ cell) e =
    or_across (p slot) (list_any p cell) (q slot) (list_any q cell)
    ∙ sym (ap₂ (λ (x y : Bool). x || y) (e slot) (sym (some_of_both p q r cell e)))

-- the same test in other words
pub outside_agree : (f h : List Slot → Bool) (g : Grid) (rows : List Bool) → ((cell : List Slot) → f cell ≡ h cell) →
    NonePassOutside f g rows → NonePassOutside h g rows
outside_agree f h g rows same none row low out x across = sym (same (cell_at g (x * g.height + row)))
    ∙ none row low out x across

-- one of the objects passed by, or one more
pub held-none : (g : Grid) (rows : List Bool) → NonePassOutside (list_any (holds_any [])) g rows
held-none g rows row low out x across = holds_none (cell_at g (x * g.height + row))

pub held-more : (g : Grid) (objects : List ObjectId) (count : ℕ) (object : ObjectId) (rows having either : List Bool) →
    IsGrid g → count < length objects → object ≡ get_or objects count object →
    either ≡ either_columns rows having → NonePassOutside (list_any (holds_any (take count objects))) g rows →
    PassOnlyOn (slot_holds object) g having →
    NonePassOutside (list_any (holds_any (take (count + 1) objects))) g either
held-more g objects count object rows having either shape within is e none only row low out x across =
    let parts =
    or_parts (column_at rows row) (column_at having row)
    (sym (ap (λ (cs : List Bool). column_at cs row) e
    ∙ column_at-where (λ y. column_at rows y || column_at having y) row (omega (arith, low, shape.rows))) ∙ out) in
    none_of_both (holds_any (take count objects)) (slot_holds object) (holds_any (take (count + 1) objects))
    (cell_at g (x * g.height + row))
    (λ slot. list_any_more (λ each. slot_holds each slot) objects count object within
    ∙ ap (λ (o : ObjectId). holds_any (take count objects) slot || slot_holds o slot) (sym is))
    (none row low parts.0 x across) (only row low parts.1 x across)

pub standing-none : (g : Grid) (row : ℕ) → no_columns ≡ row_cells (list_any (holds_any [])) g row
standing-none g row = columns-agree (λ x. false) (λ x.
    nat_lt x g.width && list_any (holds_any []) (cell_at g (x * g.height + row)))
    (λ x low. sym (ap (λ (b : Bool). nat_lt x g.width && b) (holds_none (cell_at g (x * g.height + row)))
    ∙ and-false (nat_lt x g.width)))

pub standing-more : (g : Grid) (objects : List ObjectId) (count : ℕ) (object : ObjectId) (row : ℕ)
    (having more : List Bool) → count < length objects → object ≡ get_or objects count object →
    having ≡ row_cells (list_any (holds_any (take count objects))) g row →
    more ≡ row_cells (list_any (slot_holds object)) g row →
    either_columns having more ≡ row_cells (list_any (holds_any (take (count + 1) objects))) g row
standing-more g objects count object row having more within is so_far told =
    rows_either (list_any (holds_any (take count objects))) (list_any (slot_holds object))
    (list_any (holds_any (take (count + 1) objects))) g row having more
    (λ cell. some_of_both (holds_any (take count objects)) (slot_holds object) (holds_any (take (count + 1) objects))
    cell (λ slot. list_any_more (λ each. slot_holds each slot) objects count object within
    ∙ ap (λ (o : ObjectId). holds_any (take count objects) slot || slot_holds o slot) (sym is)))
    so_far told

-- each of the objects passed by, and one more
pub each-none : (g : Grid) (rows : List Bool) → IsGrid g → rows ≡ columns_below g.height →
    NonePassOutside (has_each []) g rows
each-none g rows shape is row low out x across =
    let within : row < SIDE_LIMIT = omega (arith, low, shape.rows) in
    let there : nat_lt row g.height ≡ true = grind (arith, nat_tests, low) in
    sym there ∙ sym (ap (λ (cs : List Bool). column_at cs row) is ∙ column_at-where (λ y. nat_lt y g.height) row within)
    ∙ out

-- where an object doesn't stand none of a list of it alone does
one_none : (cell : List Slot) (object : ObjectId) → list_any (slot_holds object) cell ≡ false →
    list_any (holds_any (object ∷ [])) cell ≡ false
one_none cell object off =
    none_of_both (slot_holds object) (holds_any []) (holds_any (object ∷ [])) cell (λ slot. refl) off (holds_none cell)

pub held-one : (g : Grid) (object : ObjectId) (rows : List Bool) → PassOnlyOn (slot_holds object) g rows →
    NonePassOutside (list_any (holds_any (object ∷ []))) g rows
held-one g object rows only row low out x across =
    one_none (cell_at g (x * g.height + row)) object (only row low out x across)

one_off : (b : Bool) (cell : List Slot) (object : ObjectId) → list_any (slot_holds object) cell ≡ false →
    (b && list_any (holds_any (object ∷ [])) cell) ≡ false
one_off b cell object off = ap (λ (c : Bool). b && c) (one_none cell object off) ∙ and-false b

each_by : (g : Grid) (passed : List Slot → Bool) (object : ObjectId) (rows having : List Bool) (row x : ℕ) (a b : Bool)
    → column_at rows row ≡ a → column_at having row ≡ b → (a && b) ≡ false → row < g.height → x < g.width →
    NonePassOutside passed g rows → PassOnlyOn (slot_holds object) g having →
    (passed (cell_at g (x * g.height + row)) && list_any (holds_any (object ∷ [])) (cell_at g (x * g.height + row))) ≡
    false
each_by g passed object rows having row x false b e d out low across none only =
    ap (λ (c : Bool). c && list_any (holds_any (object ∷ [])) (cell_at g (x * g.height + row)))
    (none row low e x across)
each_by g passed object rows having row x true b e d out low across none only =
    one_off (passed (cell_at g (x * g.height + row))) (cell_at g (x * g.height + row)) object
    (only row low (d ∙ out) x across)

pub each-more : (g : Grid) (objects : List ObjectId) (count : ℕ) (object : ObjectId) (rows having both : List Bool) →
    IsGrid g → count < length objects → object ≡ get_or objects count object →
    both ≡ both_columns rows having → NonePassOutside (has_each (take count objects)) g rows →
    PassOnlyOn (slot_holds object) g having → NonePassOutside (has_each (take (count + 1) objects)) g both
each-more g objects count object rows having both shape within is e none only row low out x across =
    sym (each_more objects count object within is (cell_at g (x * g.height + row)))
    ∙ each_by g (has_each (take count objects)) object rows having row x (column_at rows row) (column_at having row)
    refl refl
    (sym (ap (λ (cs : List Bool). column_at cs row) e
    ∙ column_at-where (λ y. column_at rows y && column_at having y) row (omega (arith, low, shape.rows))) ∙ out)
    low across none only
