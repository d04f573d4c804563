-- A rule that needs an object which is nowhere on the board, or asks for a motion that nothing there has, has no
-- combination.
use Rattle.std.proofs.Common.{◌≡◌, ◌∙◌, ℕ, suc, zero, ◌<◌, ◌+◌, ◌*◌, ◌/◌, ◌%◌, ◌&&◌, ◌⊎◌, inl, inr, Bool, false, Option}
use Rattle.std.proofs.Common.{Some, None, List, [], ◌∷◌, ◌++◌, length, map, filter, get_or, refl, sym, subst, ap, arith}
use Rattle.std.specs.Prelude.{not, slice_get}
use Rattle.std.specs.List.{flat_map, list_all, list_any, Contains}
use Rattle.std.proofs.Math.Bool.{and-false}
use Rattle.std.proofs.lemmas.List.{get_or_default, length-map, map-append}
use Rattle.std.proofs.lemmas.Nat.{div-add-mod', div_below, mod_below}
use Rattle.std.proofs.lemmas.Option.{get_or_from_slice_get, slice_get_within}
use Rattle.std.proofs.lemmas.Grind.{flat_map-append}
use Rattle.ps_model.specs.declared.pieces.Direction.{Direction}
use Rattle.ps_model.specs.declared.pieces.Slot.{Slot}
use Rattle.ps_model.specs.declared.compiled.LayeredObject.{LayeredObject}
use Rattle.ps_model.specs.declared.compiled.MotionTest.{MotionTest}
use Rattle.ps_model.specs.board.Grid.{Grid, IsGrid, cell_at}
use Rattle.ps_model.specs.board.Places.{places, fits_along, fits_there, stretches, search_order}
use Rattle.ps_model.specs.board.Attempts.{combinations}
use Rattle.ps_model.specs.meaning.Compiled.{is_held_in, moves_as_asked}
use Rattle.ps_model.specs.meaning.RuleMeanings.{CellMeaning}
use Rattle.ps_laws.proofs.common.Lists.{none-filtered}
use Rattle.ps_laws.proofs.common.Truths.{first-false, second-false}
use Rattle.ps_program.specs.declared.cells.CellMask.{CellMask}
use Rattle.ps_program.specs.declared.cells.CompiledCell.{CompiledCell}
use Rattle.ps_program.specs.Needs.{asked_by_part, asked_by_row, asked_by_rows, cell_moves, cell_needs, rows_move}
use Rattle.ps_program.specs.Needs.{rows_need}
use Rattle.ps_match.specs.Nowhere.{IsNowhere, MovesNowhere}
use Rattle.ps_program.specs.declared.rows.CompiledRow.{CompiledRow}
use Rattle.ps_places.specs.Lines.{cell_meaning}
use Rattle.ps_places.specs.RowPlaces.{cells_meaning, parts_meaning, row_meaning}
use Rattle.ps_places.proofs.OnlyOn.{last_off}
use Rattle.ps_places.proofs.Ranges.{flat_map-none}
use Rattle.ps_engine.proofs.Choosing.{cells_in-meant}
use Rattle.ps_engine.proofs.Combinations.{get-shown_twice, no_combination}

-- elements of lists ---------------------------------------------------------------------------------------------------

-- the list that an element stems from
abbrev Source : {X Y : Type 0} → (X → List Y) → List X → Y → Type 0
Source {X} f xs y = (x : X) × Contains xs x × Contains (f x) y

module _ {X : Type 0} where
  one_behind : (x : X) (xs : List X) (y : X) → Contains xs y → Contains (x ∷ xs) y
  one_behind x xs y (k, low, e) = (suc k, omega (arith, low), e)

  either_behind : (x : X) (xs ys : List X) (y : X) → Contains xs y ⊎ Contains ys y → Contains (x ∷ xs) y ⊎ Contains ys y
  either_behind x xs ys y (inl h) = inl (one_behind x xs y h)
  either_behind x xs ys y (inr h) = inr h

  in_either : (xs ys : List X) (y : X) → Contains (xs ++ ys) y → Contains xs y ⊎ Contains ys y
  in_either [] ys y h = inr h
  in_either (x ∷ xs) ys y (zero, low, e) = inl (0, omega arith, e)
  in_either (x ∷ xs) ys y (suc k, low, e) = either_behind x xs ys y (in_either xs ys y (k, omega (arith, low), e))

module _ {X Y : Type 0} (f : X → List Y) where
  source_behind : (x : X) (xs : List X) (y : Y) → Source f xs y → Source f (x ∷ xs) y
  source_behind x xs y (z, there, h) = (z, one_behind x xs z there, h)

  source_by : (x : X) (xs : List X) (y : Y) → (Contains (flat_map f xs) y → Source f xs y) →
      Contains (f x) y ⊎ Contains (flat_map f xs) y → Source f (x ∷ xs) y
  source_by x xs y rest (inl h) = (x, (0, omega arith, refl), h)
  source_by x xs y rest (inr h) = source_behind x xs y (rest h)

  source_of : (xs : List X) (y : Y) → Contains (flat_map f xs) y → Source f xs y
  source_of [] y (k, low, e) = absurd (omega (arith, low))
  source_of (x ∷ xs) y h = source_by x xs y (source_of xs y) (in_either (f x) (flat_map f xs) y h)

-- the cells of parts, in written order
abbrev pub all_cells : List (List CompiledCell) → List CompiledCell
all_cells parts = flat_map (λ part. part) parts

pub cells_meaning-all : (table : Option (List ℕ)) (parts : List (List CompiledCell)) →
    cells_meaning table parts ≡ map (cell_meaning table) (all_cells parts)
cells_meaning-all table [] = refl
cells_meaning-all table (part ∷ parts) =
    ap (λ (ms : List CellMeaning). map (cell_meaning table) part ++ ms) (cells_meaning-all table parts)
    ∙ sym (map-append (cell_meaning table) part (all_cells parts))

-- what the parts ask for is what their cells ask for
asked_joined : {X : Type 0} (asked : CompiledCell → List X) (parts : List (List CompiledCell)) →
    flat_map (asked_by_part asked) parts ≡ flat_map asked (all_cells parts)
asked_joined asked [] = refl
asked_joined asked (part ∷ parts) = ap (λ (xs : List _). asked_by_part asked part ++ xs) (asked_joined asked parts)
    ∙ sym (flat_map-append asked part (all_cells parts))

not_all : {X : Type 0} (test : X → Bool) (x : X) → test x ≡ false → (xs : List X) → Contains xs x →
    list_all test xs ≡ false
not_all test x off [] (k, low, e) = absurd (omega (arith, low))
not_all test x off (first ∷ xs) (zero, low, e) = ap (λ (b : Bool). b && list_all test xs) (ap test e ∙ off)
not_all test x off (first ∷ xs) (suc k, low, e) =
    ap (λ (b : Bool). test first && b) (not_all test x off xs (k, omega (arith, low), e)) ∙ and-false (test first)

-- a cell, a row, a rule -----------------------------------------------------------------------------------------------

-- a cell that asks for that fits nowhere
abbrev FitsNowhere : {X : Type 0} → Grid → Option (List ℕ) → (CompiledCell → List X) → X → Type 0
FitsNowhere g table asked x = (cell : CompiledCell) → Contains (asked cell) x → (number : ℕ) →
    fits_there (cell_meaning table cell) (slice_get g.cells number) ≡ false

module _ {X : Type 0} (g : Grid) (table : Option (List ℕ)) (asked : CompiledCell →
    List X) (x : X) (nowhere : FitsNowhere g table asked x) where
  -- the cells fit nowhere
  row_off : (cells : List CompiledCell) (cell : CompiledCell) → Contains cells cell → Contains (asked cell) x →
      (at : List ℕ) → fits_along g (map (cell_meaning table) cells) at ≡ false
  row_off [] cell (k, low, e) asks at = absurd (omega (arith, low))
  row_off (first ∷ cells) cell there asks [] = refl
  row_off (first ∷ cells) cell (zero, low, e) asks (number ∷ at) =
      first-false (fits_there (cell_meaning table first) (slice_get g.cells number))
      (fits_along g (map (cell_meaning table) cells) at)
      (ap (λ (c : CompiledCell). fits_there (cell_meaning table c) (slice_get g.cells number)) e
      ∙ nowhere cell asks number)
  row_off (first ∷ cells) cell (suc k, low, e) asks (number ∷ at) =
      second-false (fits_there (cell_meaning table first) (slice_get g.cells number))
      (fits_along g (map (cell_meaning table) cells) at) (row_off cells cell (k, omega (arith, low), e) asks at)

  parts_off : (direction : Direction) (parts : List (List CompiledCell)) → Source asked (all_cells parts) x →
      places g direction (parts_meaning table parts) ≡ []
  parts_off direction parts (cell, there, asks) =
      let row : List (List CellMeaning) = parts_meaning table parts in
      flat_map-none (λ end. filter (fits_along g _) (stretches g direction (map length row) end))
      (search_order g direction)
      (λ end. none-filtered (fits_along g _) (stretches g direction (map length row) end)
      (λ at. ap (λ (ms : List CellMeaning). fits_along g ms at) (cells_in-meant table parts
      ∙ cells_meaning-all table parts) ∙ row_off (all_cells parts) cell there asks at))

  row_without : (direction : Direction) (row : CompiledRow) → Contains (asked_by_row asked row) x →
      places g direction (row_meaning table row) ≡ []
  row_without direction row (k, low, e) =
      let parts : List (List CompiledCell) = row.parts in
      let asks : Contains (flat_map asked (all_cells parts)) x = rw (← asked_joined asked parts) (k, low, e) in
      parts_off direction parts (source_of asked (all_cells parts) x asks)

  rows_without : (direction : Direction) (rows : List CompiledRow) → Source (asked_by_row asked) rows x →
      combinations (map (places g direction) (map (row_meaning table) rows)) ≡ []
  rows_without direction rows (row, (k, low, e), asks) =
      let at = places g direction in
      let within : k < length (map at (map (row_meaning table) rows)) =
      rw (length-map (map (row_meaning table) rows) at, length-map rows (row_meaning table)) low in
      no_combination (map at (map (row_meaning table) rows)) k [] within
      (get-shown_twice (row_meaning table) at rows k row [] low (sym e) ∙ row_without direction row asks)

  pub rule_without : (direction : Direction) (rows : List CompiledRow) (asks : List X) (k : ℕ) (d : X) →
      asks ≡ asked_by_rows asked rows → k < length asks → get_or asks k d ≡ x →
      combinations (map (places g direction) (map (row_meaning table) rows)) ≡ []
  rule_without direction rows asks k d is low e =
      let here : Contains asks x = (k, low, get_or_default asks k x d low ∙ e) in
      rows_without direction rows (source_of (asked_by_row asked) rows x
      (subst (λ (xs : List X). Contains xs x) is here))

-- an object that is nowhere -------------------------------------------------------------------------------------------

mask_off : (mask : CellMask) (object : LayeredObject) (slots : List Slot) → is_held_in slots object ≡ false →
    Contains mask.needed object →
    (list_all (is_held_in slots) mask.needed
    && (not (list_any (is_held_in slots) mask.barred) &&
    (list_all (λ objects. list_any (is_held_in slots) objects) mask.one_of && list_all (moves_as_asked slots)
    mask.motions)))
    ≡ false
mask_off mask object slots off needs =
    ap (λ (b : Bool). b
    && (not (list_any (is_held_in slots) mask.barred) &&
    (list_all (λ objects. list_any (is_held_in slots) objects) mask.one_of && list_all (moves_as_asked slots)
    mask.motions)))
    (not_all (is_held_in slots) object off mask.needed needs)

object_off : (g : Grid) (table : Option (List ℕ)) (object : LayeredObject) → IsNowhere g object →
    (cell : CompiledCell) → Contains (cell_needs cell) object →
    (number : ℕ) (found : Option (List Slot)) → slice_get g.cells number ≡ found →
    fits_there (cell_meaning table cell) found ≡ false
object_off g table object nowhere cell needs number None e = refl
object_off g table object nowhere cell needs number (Some slots) e =
    let same : cell_at g number ≡ slots = get_or_from_slice_get g.cells number slots [] e in
    mask_off cell.mask object slots (ap (λ (s : List Slot). is_held_in s object) (sym same) ∙ nowhere number) needs

pub rule_lacking : (g : Grid) (table : Option (List ℕ)) (direction : Direction) (rows : List CompiledRow)
    (objects : List LayeredObject) (k : ℕ) (d : LayeredObject) →
    objects ≡ rows_need rows → k < length objects → IsNowhere g (get_or objects k d) →
    combinations (map (places g direction) (map (row_meaning table) rows)) ≡ []
rule_lacking g table direction rows objects k d is low nowhere =
    rule_without g table cell_needs (get_or objects k d) (λ cell asks number.
    object_off g table (get_or objects k d) nowhere cell asks number (slice_get g.cells number) refl)
    direction rows objects k d is low refl

-- a motion that nothing has -------------------------------------------------------------------------------------------

cell_still : (g : Grid) (table : Option (List ℕ)) (test : MotionTest) → IsGrid g → MovesNowhere g test →
    (cell : CompiledCell) → Contains (cell_moves cell) test →
    (number : ℕ) (found : Option (List Slot)) → slice_get g.cells number ≡ found →
    fits_there (cell_meaning table cell) found ≡ false
cell_still g table test grid nowhere cell asks number None e = refl
cell_still g table test grid nowhere cell asks number (Some slots) e =
    let same : cell_at g number ≡ slots = get_or_from_slice_get g.cells number slots [] e in
    let inside : number < g.width * g.height = omega (arith, slice_get_within g.cells number slots e, grid.cells) in
    let column : number / g.height < g.width = div_below number g.height g.width grid.some_row inside in
    let place : number / g.height * g.height + number % g.height ≡ number = div-add-mod' number g.height in
    let off = nowhere (number % g.height) (mod_below number g.height grid.some_row) (number / g.height) column in
    last_off (list_all (is_held_in slots) cell.mask.needed) (not (list_any (is_held_in slots) cell.mask.barred))
    (list_all (λ objects. list_any (is_held_in slots) objects) cell.mask.one_of)
    (list_all (moves_as_asked slots) cell.mask.motions)
    (not_all (moves_as_asked slots) test
    (ap (λ (s : List Slot). moves_as_asked s test) (sym same)
    ∙ ap (λ (n : ℕ). moves_as_asked (cell_at g n) test) (sym place) ∙ off) cell.mask.motions asks)

pub rule_still : (g : Grid) (table : Option (List ℕ)) (direction : Direction) (rows : List CompiledRow)
    (tests : List MotionTest) (k : ℕ) (d : MotionTest) → IsGrid g →
    tests ≡ rows_move rows → k < length tests → MovesNowhere g (get_or tests k d) →
    combinations (map (places g direction) (map (row_meaning table) rows)) ≡ []
rule_still g table direction rows tests k d grid is low nowhere =
    rule_without g table cell_moves (get_or tests k d) (λ cell asks number.
    cell_still g table (get_or tests k d) grid nowhere cell asks number (slice_get g.cells number) refl)
    direction rows tests k d is low refl
