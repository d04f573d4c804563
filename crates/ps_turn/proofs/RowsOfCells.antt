-- Rows of a grid, cell by cell: what their sets of columns tell of all cells.
use Rattle.std.proofs.Common.{◌≡◌, ◌∙◌, ℕ, suc, zero, ◌+◌, ◌*◌, ◌/◌, ◌%◌, ◌<◌, ◌≤◌, ◌||◌, ◌&&◌, Bool, true, false, cond}
use Rattle.std.proofs.Common.{List, [], ◌∷◌, length, take, get_or, filter, mod-lt, refl, sym, ap, ap₂, arith}
use Rattle.std.specs.Prelude.{nat_eq, nat_lt, not}
use Rattle.std.specs.List.{list_any, list_all, range_with_len}
use Rattle.std.proofs.lemmas.Bool.Decides.{nat_tests}
use Rattle.std.proofs.lemmas.List.{get_or_default}
use Rattle.std.proofs.lemmas.List.FromFn.{length-range_with_len, get_or-range_with_len}
use Rattle.std.proofs.lemmas.List.Folds.{list_any_at, list_any_none, list_all_more}
use Rattle.std.proofs.lemmas.Nat.{div_below, div-add-mod'}
use Rattle.std.proofs.Math.Bool.{or-false}
use Rattle.std.proofs.lemmas.Bool.{ltb-true, and_parts}
use Rattle.ps_model.specs.declared.limits.TheConstants.{SIDE_LIMIT}
use Rattle.ps_model.specs.declared.pieces.ObjectId.{ObjectId}
use Rattle.ps_model.specs.declared.pieces.Slot.{Slot}
use Rattle.ps_model.specs.declared.pieces.Slot.TheVariants.{Bare, Holds}
use Rattle.ps_model.specs.names.Names.{is_among, same_object}
use Rattle.ps_model.specs.board.Grid.{Grid, IsGrid, cell_at}
use Rattle.ps_model.specs.session.Frames.{objects_in}
use Rattle.ps_laws.proofs.common.Truths.{or_across}
use Rattle.ps_board.specs.ColumnSets.{columns_where, column_at, set_columns, columns_below, both_columns}
use Rattle.ps_board.specs.ColumnSets.{columns_without, either_columns}
use Rattle.ps_board.proofs.ColumnLaws.{column_at-where, columns-agree, set_columns-where}
use Rattle.ps_board.proofs.PassedColumns.{cell_below}
use Rattle.ps_board.proofs.Taken.{AreBelow}
use Rattle.ps_turn.specs.RowsOfCells.{columns_within, row_cells, has_each}
use Rattle.ps_turn.specs.Sweeps.{holds_any}
use Rattle.ps_turn.proofs.WhereObjectsStand.{among_by, holds_bare, same_by}

-- sets of columns -----------------------------------------------------------------------------------------------------

-- what is known of the columns within the width alone
within_by : (x width : ℕ) (low a b : Bool) → nat_lt x width ≡ low → (x < width → a ≡ b) → (low && a) ≡ (low && b)
within_by x width true a b t e = e (grind (arith, nat_tests))
within_by x width false a b t e = refl

pub within-agree : (width : ℕ) (f h : ℕ → Bool) → ((x : ℕ) → x < width → f x ≡ h x) →
    columns_within width f ≡ columns_within width h
within-agree width f h e = columns-agree (λ x. nat_lt x width && f x) (λ x. nat_lt x width && h x) (λ x low.
    within_by x width (nat_lt x width) (f x) (h x) refl (e x))

-- a set is that of the columns in it
pub is_where : (columns : List Bool) (f : ℕ → Bool) → columns ≡ columns_where f →
    columns ≡ columns_where (column_at columns)
is_where columns f is =
    is ∙ columns-agree f (column_at columns) (λ x low.
    sym (ap (λ (cs : List Bool). column_at cs x) is ∙ column_at-where f x low))

known_by : (x width : ℕ) (low a b : Bool) → nat_lt x width ≡ low → (x < width → a ≡ b) → (width ≤ x → a ≡ false) →
    a ≡ (low && b)
known_by x width true a b t e none = e (grind (arith, nat_tests))
known_by x width false a b t e none = none (grind (arith, nat_tests))

-- a set without a column beyond the width
pub known-within : (width : ℕ) (columns : List Bool) (f : ℕ → Bool) → columns ≡ columns_where (column_at columns) →
    AreBelow width columns → ((x : ℕ) → x < width → column_at columns x ≡ f x) → columns ≡ columns_within width f
known-within width columns f set below e =
    set ∙ columns-agree (column_at columns) (λ x. nat_lt x width && f x) (λ x low.
    known_by x width (nat_lt x width) (column_at columns x) (f x) refl (e x) (below.at x low))

and_true : (low : Bool) → low ≡ (low && true)
and_true true = refl
and_true false = refl

pub within-all : (width : ℕ) → columns_below width ≡ columns_within width (λ x. true)
within-all width = columns-agree (λ x. nat_lt x width) (λ x. nat_lt x width && true) (λ x low.
    and_true (nat_lt x width))

both_by : (low a b : Bool) → ((low && a) && (low && b)) ≡ (low && (a && b))
both_by true a b = refl
both_by false a b = refl

pub within-both : (width : ℕ) (f h : ℕ → Bool) →
    both_columns (columns_within width f) (columns_within width h) ≡ columns_within width (λ x. f x && h x)
within-both width f h =
    columns-agree (λ x. column_at (columns_within width f) x && column_at (columns_within width h) x) (λ x.
    nat_lt x width && (f x && h x))
    (λ x low.
    ap₂ (λ (a b : Bool). a && b) (column_at-where (λ y. nat_lt y width && f y) x low)
    (column_at-where (λ y. nat_lt y width && h y) x low)
    ∙ both_by (nat_lt x width) (f x) (h x))

either_by : (low a b c : Bool) → (a || b) ≡ c → ((low && a) || (low && b)) ≡ (low && c)
either_by true a b c e = e
either_by false a b c e = refl

without_by : (low a b : Bool) → ((low && a) && not (low && b)) ≡ (low && (a && not b))
without_by true a b = refl
without_by false a b = refl

pub within-without : (width : ℕ) (f h : ℕ → Bool) →
    columns_without (columns_within width f) (columns_within width h) ≡ columns_within width (λ x. f x && not (h x))
within-without width f h =
    columns-agree (λ x. column_at (columns_within width f) x && not (column_at (columns_within width h) x)) (λ x.
    nat_lt x width && (f x && not (h x)))
    (λ x low.
    ap₂ (λ (a b : Bool). a && not b) (column_at-where (λ y. nat_lt y width && f y) x low)
    (column_at-where (λ y. nat_lt y width && h y) x low)
    ∙ without_by (nat_lt x width) (f x) (h x))

-- no column, and some column ------------------------------------------------------------------------------------------

none_by : (f : ℕ → Bool) (a n x : ℕ) (here same : Bool) → f a ≡ here → nat_eq x a ≡ same →
    filter f (range_with_len a (suc n)) ≡ [] → a ≤ x → x < a + suc n →
    (filter f (range_with_len (a + 1) n) ≡ [] → a + 1 ≤ x → x < a + 1 + n → f x ≡ false) → f x ≡ false
none_by f a n x true same h t none low high rest = absurd (cc)
none_by f a n x false true h t none low high rest = let is : x ≡ a = grind (arith, nat_tests) in ap f is ∙ h
none_by f a n x false false h t none low high rest =
    let other : a + 1 ≤ x = grind (arith, nat_tests) in
    rest (ap (λ (b : Bool). cond b (a ∷ filter f (range_with_len (a + 1) n)) (filter f (range_with_len (a + 1) n)))
    (sym h) ∙ none) other (omega arith)

none_on : (f : ℕ → Bool) (a n x : ℕ) → filter f (range_with_len a n) ≡ [] → a ≤ x → x < a + n → f x ≡ false
none_on f a zero x none low high = absurd (omega arith)
none_on f a (suc n) x none low high = none_by f a n x (f a) (nat_eq x a) refl refl none low high (none_on f (a + 1) n x)

-- a number below a limit of which something holds
pub record IsFound (holds : ℕ → Bool) (limit : ℕ) : Type 0 where
  pub number : ℕ
  pub below : number < limit
  pub is : holds number ≡ true

found_by : (f : ℕ → Bool) (a n : ℕ) (here : Bool) → f a ≡ here →
    0 < length (cond here (a ∷ filter f (range_with_len (a + 1) n)) (filter f (range_with_len (a + 1) n))) →
    (0 < length (filter f (range_with_len (a + 1) n)) → IsFound f (a + 1 + n)) → IsFound f (a + suc n)
found_by f a n true h some rest = record { number = a; below = omega arith; is = h }
found_by f a n false h some rest =
    let found : IsFound f (a + 1 + n) = rest some in
    record { number = found.number; below = omega (arith, found.below); is = found.is }

found_on : (f : ℕ → Bool) (a n : ℕ) → 0 < length (filter f (range_with_len a n)) → IsFound f (a + n)
found_on f a zero some = absurd (omega arith)
found_on f a (suc n) some = found_by f a n (f a) refl some (found_on f (a + 1) n)

-- a set without columns
pub none_in : (f : ℕ → Bool) (x : ℕ) → x < SIDE_LIMIT → set_columns (columns_where f) ≡ [] → f x ≡ false
none_in f x low none = none_on f 0 SIDE_LIMIT x (sym (set_columns-where f) ∙ none) (omega arith) (omega (arith, low))

pub within-none : (width x : ℕ) (f : ℕ → Bool) → width ≤ SIDE_LIMIT → x < width →
    set_columns (columns_within width f) ≡ [] → f x ≡ false
within-none width x f narrow across none =
    let low : nat_lt x width ≡ true = grind (arith, nat_tests) in
    ap (λ (b : Bool). b && f x) (sym low) ∙ none_in (λ y. nat_lt y width && f y) x (omega (arith, narrow, across)) none

-- and with some
long_as : (xs ys : List ℕ) → xs ≡ ys → 0 < length xs → 0 < length ys
long_as xs ys same some = rw (← same) some

pub within-some : (width : ℕ) (f : ℕ → Bool) → 0 < length (set_columns (columns_within width f)) → IsFound f width
within-some width f some =
    let holds : ℕ → Bool = λ y. nat_lt y width && f y in
    let found : IsFound holds SIDE_LIMIT = found_on holds 0 SIDE_LIMIT
    (long_as (set_columns (columns_where holds)) (filter holds (range_with_len 0 SIDE_LIMIT))
    (set_columns-where holds) some) in
    let parts : (nat_lt found.number width ≡ true) × (f found.number ≡ true) =
    and_parts (nat_lt found.number width) (f found.number) found.is in
    record { number = found.number; below = ltb-true found.number width parts.0; is = parts.1 }

-- rows ----------------------------------------------------------------------------------------------------------------

-- the rows of X and of the places, together
pub rows_met : (subject place : List Slot → Bool) (g : Grid) (row : ℕ) (columns others : List Bool) →
    columns ≡ row_cells subject g row → others ≡ row_cells place g row →
    both_columns columns others ≡ row_cells (λ cell. subject cell && place cell) g row
rows_met subject place g row columns others is are =
    ap₂ both_columns is are ∙ within-both g.width (λ x. subject (cell_at g (x * g.height + row))) (λ x.
    place (cell_at g (x * g.height + row)))

-- the rows of what passes one of two tests
pub rows_either : (f h k : List Slot → Bool) (g : Grid) (row : ℕ) (columns others : List Bool) →
    ((cell : List Slot) → (f cell || h cell) ≡ k cell) → columns ≡ row_cells f g row → others ≡ row_cells h g row →
    either_columns columns others ≡ row_cells k g row
rows_either f h k g row columns others same is are =
    columns-agree (λ x. column_at columns x || column_at others x) (λ x.
    nat_lt x g.width && k (cell_at g (x * g.height + row)))
    (λ x low.
    ap₂ (λ (a b : Bool). a || b)
    (ap (λ (cs : List Bool). column_at cs x) is
    ∙ column_at-where (λ y. nat_lt y g.width && f (cell_at g (y * g.height + row))) x low)
    (ap (λ (cs : List Bool). column_at cs x) are
    ∙ column_at-where (λ y. nat_lt y g.width && h (cell_at g (y * g.height + row))) x low)
    ∙ either_by (nat_lt x g.width) (f (cell_at g (x * g.height + row))) (h (cell_at g (x * g.height + row)))
    (k (cell_at g (x * g.height + row))) (same (cell_at g (x * g.height + row))))

pub rows_missed : (subject place : List Slot → Bool) (g : Grid) (row : ℕ) (columns others : List Bool) →
    columns ≡ row_cells subject g row → others ≡ row_cells place g row →
    columns_without columns others ≡ row_cells (λ cell. subject cell && not (place cell)) g row
rows_missed subject place g row columns others is are =
    ap₂ columns_without is are ∙ within-without g.width (λ x. subject (cell_at g (x * g.height + row))) (λ x.
    place (cell_at g (x * g.height + row)))

-- a row without X
none_more : (low here more : Bool) → (low && here) ≡ false → (low && here) ≡ (low && (here && more))
none_more true true more none = absurd (cc)
none_more true false more none = refl
none_more false here more none = refl

pub rows_none : (subject more : List Slot → Bool) (g : Grid) (row : ℕ) (columns : List Bool) →
    columns ≡ row_cells subject g row → set_columns columns ≡ [] →
    columns ≡ row_cells (λ cell. subject cell && more cell) g row
rows_none subject more g row columns is none =
    is
    ∙ columns-agree (λ x. nat_lt x g.width && subject (cell_at g (x * g.height + row))) (λ x.
    nat_lt x g.width && (subject (cell_at g (x * g.height + row)) && more (cell_at g (x * g.height + row))))
    (λ x low.
    none_more (nat_lt x g.width) (subject (cell_at g (x * g.height + row))) (more (cell_at g (x * g.height + row)))
    (none_in (λ y. nat_lt y g.width && subject (cell_at g (y * g.height + row))) x low (ap set_columns (sym is)
    ∙ none)))

-- the same test in other words
pub rows_agree : (f h : List Slot → Bool) (g : Grid) (row : ℕ) (columns : List Bool) →
    ((cell : List Slot) → f cell ≡ h cell) → columns ≡ row_cells f g row → columns ≡ row_cells h g row
rows_agree f h g row columns same is = is ∙ within-agree g.width (λ x. f (cell_at g (x * g.height + row))) (λ x.
    h (cell_at g (x * g.height + row))) (λ x across. same (cell_at g (x * g.height + row)))

-- all cells -----------------------------------------------------------------------------------------------------------

-- what holds of no cell of a row, in any row, holds of no cell
pub none-below : (test : ℕ → Bool) (width height cell : ℕ) → 0 < height →
    ((x row : ℕ) → x < width → row < height → test (x * height + row) ≡ false) → cell < width * height →
    test cell ≡ false
none-below test width height cell some none within =
    ap test (sym (div-add-mod' cell height)) ∙ none (cell / height) (cell % height)
    (div_below cell height width some within) (mod-lt cell some)

none_here : (passes : List Slot → Bool) (g : Grid) → IsGrid g →
    ((x row : ℕ) → x < g.width → row < g.height → passes (cell_at g (x * g.height + row)) ≡ false) →
    (cell : ℕ) (d : List Slot) → cell < length g.cells → passes (get_or g.cells cell d) ≡ false
none_here passes g shape none cell d within =
    ap passes (get_or_default g.cells cell d [] within)
    ∙ none-below (λ n. passes (cell_at g n)) g.width g.height cell shape.some_row none (rw (← shape.cells) within)

pub no_cell_passes : (passes : List Slot → Bool) (g : Grid) → IsGrid g →
    ((x row : ℕ) → x < g.width → row < g.height → passes (cell_at g (x * g.height + row)) ≡ false) →
    list_any passes g.cells ≡ false
no_cell_passes passes g shape none = list_any_none passes g.cells (λ k d within.
    none_here passes g shape none k d within)

pub cell_passes : (passes : List Slot → Bool) (g : Grid) → IsGrid g → (x row : ℕ) → x < g.width → row < g.height →
    passes (cell_at g (x * g.height + row)) ≡ true → list_any passes g.cells ≡ true
cell_passes passes g shape x row across down is =
    list_any_at passes g.cells (x * g.height + row) [] (rw shape.cells (cell_below g.width g.height x row across down))
    is

-- a row with a cell that passes
set_as : (columns others : List Bool) → columns ≡ others → 0 < length (set_columns columns) →
    0 < length (set_columns others)
set_as columns others same some = rw (← same) some

pub row_passes : (passes : List Slot → Bool) (g : Grid) → IsGrid g → (row : ℕ) (columns : List Bool) → row < g.height →
    columns ≡ row_cells passes g row → 0 < length (set_columns columns) →
    list_any passes g.cells ≡ true
row_passes passes g shape row columns down is some =
    let found : IsFound (λ x. passes (cell_at g (x * g.height + row))) g.width =
    within-some g.width (λ x. passes (cell_at g (x * g.height + row)))
    (set_as columns (row_cells passes g row) is some) in
    cell_passes passes g shape found.number row found.below down found.is

-- a row without one
pub row_without : (test : ℕ → Bool) (width height row : ℕ) (columns : List Bool) → width ≤ SIDE_LIMIT →
    columns ≡ columns_within width (λ x. test (x * height + row)) → set_columns columns ≡ [] →
    (x : ℕ) → x < width → test (x * height + row) ≡ false
row_without test width height row columns narrow is none x across =
    within-none width x (λ y. test (y * height + row)) narrow across (ap set_columns (sym is) ∙ none)

-- the same of the numbers of cells
zero_plus : (n : ℕ) → 0 + n ≡ n
zero_plus n = omega arith

below_end : (n k : ℕ) → k < length (range_with_len 0 n) → k < n
below_end n k within = let long : length (range_with_len 0 n) ≡ n = length-range_with_len 0 n in
    omega (arith, within, long)

before_end : (n k : ℕ) → k < n → k < length (range_with_len 0 n)
before_end n k within = let long : length (range_with_len 0 n) ≡ n = length-range_with_len 0 n in
    omega (arith, within, long)

pub no_number_passes : (test : ℕ → Bool) (width height : ℕ) → 0 < height →
    ((x row : ℕ) → x < width → row < height → test (x * height + row) ≡ false) →
    list_any test (range_with_len 0 (width * height)) ≡ false
no_number_passes test width height some none =
    list_any_none test (range_with_len 0 (width * height))
    (λ k d within.
    let low : k < width * height = below_end (width * height) k within in
    ap test (get_or-range_with_len 0 (width * height) k d low ∙ zero_plus k)
    ∙ none-below test width height k some none low)

number_passes : (test : ℕ → Bool) (count n : ℕ) → n < count → test n ≡ true →
    list_any test (range_with_len 0 count) ≡ true
number_passes test count n low is =
    list_any_at test (range_with_len 0 count) n 0 (before_end count n low)
    (ap test (get_or-range_with_len 0 count n 0 low ∙ zero_plus n) ∙ is)

pub row_number_passes : (test : ℕ → Bool) (width height row : ℕ) (columns : List Bool) → row < height →
    columns ≡ columns_within width (λ x. test (x * height + row)) →
    0 < length (set_columns columns) → list_any test (range_with_len 0 (width * height)) ≡ true
row_number_passes test width height row columns down is some =
    let found : IsFound (λ x. test (x * height + row)) width =
    within-some width (λ x. test (x * height + row))
    (set_as columns (columns_within width (λ x. test (x * height + row))) is some) in
    number_passes test (width * height) (found.number * height + row)
    (cell_below width height found.number row found.below down) found.is

-- some cell that is kept passes, and all that are kept do
any_by : {X : Type 0} (kept passes : X → Bool) (x : X) (xs : List X) (here : Bool) →
    list_any passes (filter kept xs) ≡ list_any (λ y. kept y && passes y) xs →
    list_any passes (cond here (x ∷ filter kept xs) (filter kept xs)) ≡
    ((here && passes x) || list_any (λ y. kept y && passes y) xs)
any_by kept passes x xs true e = ap (λ (b : Bool). passes x || b) e
any_by kept passes x xs false e = e

pub any_kept : {X : Type 0} (kept passes : X → Bool) (xs : List X) →
    list_any passes (filter kept xs) ≡ list_any (λ x. kept x && passes x) xs
any_kept kept passes [] = refl
any_kept kept passes (x ∷ xs) = any_by kept passes x xs (kept x) (any_kept kept passes xs)

all_by : {X : Type 0} (kept passes : X → Bool) (x : X) (xs : List X) (here there : Bool) → passes x ≡ there →
    list_all passes (filter kept xs) ≡ not (list_any (λ y. kept y && not (passes y)) xs) →
    list_all passes (cond here (x ∷ filter kept xs) (filter kept xs)) ≡ not
    ((here && not there) || list_any (λ y. kept y && not (passes y)) xs)
all_by kept passes x xs true true p e = rw p e
all_by kept passes x xs true false p e = rw p refl
all_by kept passes x xs false there p e = e

pub all_kept : {X : Type 0} (kept passes : X → Bool) (xs : List X) →
    list_all passes (filter kept xs) ≡ not (list_any (λ x. kept x && not (passes x)) xs)
all_kept kept passes [] = refl
all_kept kept passes (x ∷ xs) = all_by kept passes x xs (kept x) (passes x) refl (all_kept kept passes xs)

-- objects of a cell ---------------------------------------------------------------------------------------------------

-- the same object either way round
same_either_way : (first second : ObjectId) → same_object first second ≡ same_object second first
same_either_way first second = sym (same_by first.0 second.0 (nat_eq first.0 second.0) refl)

-- an object stands in a cell
pub cell_has_one : (object : ObjectId) (cell : List Slot) →
    list_any (holds_any (object ∷ [])) cell ≡ is_among (objects_in cell) object
cell_has_one object [] = refl
cell_has_one object (Bare ∷ cell) = cell_has_one object cell
cell_has_one object (Holds held motion ∷ cell) =
    ap₂ (λ (a b : Bool). a || b) (or-false (same_object object held)) (cell_has_one object cell)

-- some object of a list stands in a cell

no_objects : (objects : List ObjectId) → list_any (is_among []) objects ≡ false
no_objects [] = refl
no_objects (object ∷ objects) = no_objects objects

one_in_front : (held : ObjectId) (others objects : List ObjectId) →
    list_any (is_among (held ∷ others)) objects ≡ (is_among objects held || list_any (is_among others) objects)
one_in_front held others [] = refl
one_in_front held others (object ∷ objects) =
    ap₂ (λ (a b : Bool). (a || is_among others object) || b) (same_either_way object held)
    (one_in_front held others objects)
    ∙ or_across (same_object held object) (is_among others object) (is_among objects held)
    (list_any (is_among others) objects)

pub cell_has_some : (objects : List ObjectId) (cell : List Slot) →
    list_any (holds_any objects) cell ≡ list_any (is_among (objects_in cell)) objects
cell_has_some objects [] = sym (no_objects objects)
cell_has_some objects (Bare ∷ cell) = ap (λ (b : Bool). b || list_any (holds_any objects) cell) (holds_bare objects)
    ∙ cell_has_some objects cell
cell_has_some objects (Holds held motion ∷ cell) =
    ap₂ (λ (a b : Bool). a || b) (among_by objects held) (cell_has_some objects cell)
    ∙ sym (one_in_front held (objects_in cell) objects)

pub cell_has_any_of : (objects : List ObjectId) (cell : List Slot) →
    list_any (holds_any objects) cell ≡ list_any (is_among objects) (objects_in cell)
cell_has_any_of objects [] = refl
cell_has_any_of objects (Bare ∷ cell) = ap (λ (b : Bool).
    b || list_any (holds_any objects) cell) (holds_bare objects) ∙ cell_has_any_of objects cell
cell_has_any_of objects (Holds held motion ∷ cell) =
    ap₂ (λ (a b : Bool). a || b) (among_by objects held) (cell_has_any_of objects cell)

-- one object more that has to stand in a cell
pub each_more : (objects : List ObjectId) (count : ℕ) (object : ObjectId) → count < length objects →
    object ≡ get_or objects count object → (cell : List Slot) →
    (has_each (take count objects) cell && list_any (holds_any (object ∷ [])) cell) ≡ has_each
    (take (count + 1) objects) cell
each_more objects count object within is cell =
    ap (λ (b : Bool). has_each (take count objects) cell && b) (cell_has_one object cell
    ∙ ap (is_among (objects_in cell)) is)
    ∙ sym (list_all_more (is_among (objects_in cell)) objects count object within)

pub rows_each_more : (g : Grid) (row : ℕ) (objects : List ObjectId) (count : ℕ) (default : ObjectId)
    (columns others : List Bool) → count < length objects →
    columns ≡ row_cells (has_each (take count objects)) g row →
    others ≡ row_cells (list_any (holds_any (get_or objects count default ∷ []))) g row →
    both_columns columns others ≡ row_cells (has_each (take (count + 1) objects)) g row
rows_each_more g row objects count default columns others within is are =
    let object : ObjectId = get_or objects count default in
    rows_agree (λ cell. has_each (take count objects) cell && list_any (holds_any (object ∷ [])) cell)
    (has_each (take (count + 1) objects)) g row (both_columns columns others)
    (each_more objects count object within (get_or_default objects count default object within))
    (rows_met (has_each (take count objects)) (list_any (holds_any (object ∷ []))) g row columns others is are)
