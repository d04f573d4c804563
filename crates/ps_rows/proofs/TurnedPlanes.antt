-- Planes with a place turned round.
use Rattle.std.proofs.Common.{◌≡◌, ◌≢◌, ◌∙◌, ℕ, ◌+◌, ◌*◌, ◌/◌, ◌%◌, ◌<◌, ◌≤◌, ◌&&◌, inl, inr, Bool, true, false, not}
use Rattle.std.proofs.Common.{List, length, sym, ap, ap₂, arith}
use Rattle.std.specs.Prelude.{nat_eq, nat_lt, slice_set}
use Rattle.std.proofs.Math.Bool.{and-false}
use Rattle.std.proofs.Math.Nat.{mul-le-mul_left}
use Rattle.std.proofs.lemmas.Bool.{cases_eq, cases_lt, eq-eqb, false≢true, le-ltb, ne_eqb}
use Rattle.std.proofs.lemmas.List.{get_or-set_other, get_or_past}
use Rattle.std.proofs.lemmas.Nat.{div-add-mod', div_below, mod_below}
use Rattle.ps_model.specs.declared.limits.TheConstants.{SIDE_LIMIT}
use Rattle.ps_board.specs.ColumnSets.{column_at, no_columns, with_column}
use Rattle.ps_rows.specs.PackedKeys.{Turned, flipped}
use Rattle.ps_rows.specs.Planes.{has_cell, row_of, with_cell}
use Rattle.ps_rows.specs.TurnedPlaces.{has_layer, has_place}
use Rattle.ps_rows.proofs.CellsChanged.{has_cell-with_other, has_cell-with_same}

-- nothing is turned round for an object whose own layer the board doesn't have
pub nothing_turned : (table : List ℕ) (layers cells place : ℕ) (has : ℕ → Bool) →
    has_layer table layers (place / cells) ≡ false →
    Turned (λ q. has_layer table layers (q / cells) && nat_eq q place) has has
nothing_turned table layers cells place has none = λ q. elim (cases_eq q place) [
  | inl e ↦
      let off : has_layer table layers (q / cells) ≡ false =
      ap (λ (p : ℕ). has_layer table layers (p / cells)) e ∙ none in
      ap (λ (b : Bool). flipped (b && nat_eq q place) (has q)) (sym off)
  | inr n ↦
      ap (λ (b : Bool). flipped b (has q)) (sym (ap (λ (b : Bool). has_layer table layers (q / cells) && b)
      (ne_eqb q place n) ∙ and-false (has_layer table layers (q / cells))))
]

-- an object with such a layer is one of the table
pub layer_below : (table : List ℕ) (layers object : ℕ) → has_layer table layers object ≡ true → object < length table
layer_below table layers object on = elim (cases_lt object (length table)) [
  | inl low ↦ low
  | inr past ↦
      let own : layers ≤ layers = omega arith in
      let off : has_layer table layers object ≡ false =
      ap (λ (layer : ℕ). nat_lt layer layers) (get_or_past table object layers past) ∙ le-ltb layers layers own in
      absurd (false≢true (sym off ∙ on))
]

module _ (width height : ℕ) (words more : List (List Bool)) (place : ℕ) (across : 0 < width) (down : 0 < height)
    (some : 0 < width * height) (narrow : width ≤ SIDE_LIMIT) where
  abbrev cells : ℕ
  cells = width * height

  abbrev object : ℕ
  object = place / cells

  abbrev cell : ℕ
  cell = place % cells

  abbrev spot : ℕ
  spot = object * height + cell % height

  module _ (enough : (object + 1) * height ≤ length words)
      (is : more ≡ slice_set words spot
      (with_column (row_of words spot) (cell / height) (not (column_at (row_of words spot) (cell / height))))) where
    within : spot < length words
    within =
        let row : cell % height < height = mod_below cell height down in
        let whole : (object + 1) * height ≡ object * height + height = omega arith in
        omega (arith, row, whole, enough)

    as_cell : more ≡ with_cell height words cell object (not (has_cell height words cell object))
    unfolding with_cell has_cell
    as_cell = is

    column_low : (q : ℕ) → q % cells / height < SIDE_LIMIT
    column_low q =
        let far : q % cells / height < width = div_below (q % cells) height width down (mod_below q cells some) in
        omega (arith, far, narrow)

    own : has_place width height more place ≡ not (has_place width height words place)
    unfolding has_place
    own =
        ap (λ (ws : List (List Bool)). has_cell height ws cell object) as_cell
        ∙ has_cell-with_same height words cell object (not (has_cell height words cell object)) (column_low place) within

    other : (q : ℕ) → q ≢ place → has_place width height more q ≡ has_place width height words q
    unfolding has_place
    other q apart =
        ap (λ (ws : List (List Bool)). has_cell height ws (q % cells) (q / cells)) as_cell
        ∙ has_cell-with_other height words cell object (not (has_cell height words cell object)) (q % cells) (q / cells)
        down (column_low q) within (λ same plane. apart (sym (div-add-mod' q cells)
        ∙ ap₂ (λ (p r : ℕ). p * cells + r) plane same ∙ div-add-mod' place cells))

    pub cell_turned : (table : List ℕ) (layers : ℕ) → has_layer table layers object ≡ true →
        Turned (λ q. has_layer table layers (q / cells) && nat_eq q place) (has_place width height words)
        (has_place width height more)
    cell_turned table layers on = λ q. elim (cases_eq q place) [
      | inl e ↦
          let here : has_layer table layers (q / cells) ≡ true =
          ap (λ (p : ℕ). has_layer table layers (p / cells)) e ∙ on in
          ap (has_place width height more) e ∙ own ∙ ap (λ (p : ℕ). not (has_place width height words p)) (sym e)
          ∙ ap₂ (λ (a b : Bool). flipped (a && b) (has_place width height words q)) (sym here)
          (sym (eq-eqb q place e))
      | inr n ↦
          other q n
          ∙ ap (λ (b : Bool). flipped b (has_place width height words q))
          (sym (ap (λ (b : Bool). has_layer table layers (q / cells) && b) (ne_eqb q place n)
          ∙ and-false (has_layer table layers (q / cells))))
    ]

    -- the rows of other planes stay
    pub rows_behind : (objects : ℕ) → object < objects → (q : ℕ) → objects * height ≤ q →
        row_of more q ≡ row_of words q
    rows_behind objects low q far =
        let row : cell % height < height = mod_below cell height down in
        let next : object + 1 ≤ objects = omega (arith, low) in
        let most : height * (object + 1) ≤ height * objects = mul-le-mul_left height next in
        let whole : (object + 1) * height ≡ object * height + height = omega arith in
        ap (λ (ws : List (List Bool)). row_of ws q) is
        ∙ get_or-set_other words spot q
        (with_column (row_of words spot) (cell / height) (not (column_at (row_of words spot) (cell / height)))) no_columns
        (λ e. omega (arith, e, row, most, whole, far))
