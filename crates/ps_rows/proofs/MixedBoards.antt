-- A board whose planes are mixed from those of two boards: it is one, and what it shows.
use Rattle.std.proofs.Common.{◌≡◌, ◌∙◌, ℕ, ◌*◌, ◌/◌, ◌%◌, ◌<◌, inl, inr, Bool, true, false, Option, Some}
use Rattle.std.proofs.Common.{List, length, refl, sym, ap}
use Rattle.std.proofs.lemmas.Bool.{cases_Bool}
use Rattle.std.proofs.lemmas.Nat.{mod_below}
use Rattle.ps_model.specs.declared.pieces.Slot.{Slot}
use Rattle.ps_model.specs.board.Grid.{Grid, motion_in}
use Rattle.ps_model.specs.board.Movement.{is_number}
use Rattle.ps_model.specs.meaning.Fitting.{same_motion}
use Rattle.ps_board.specs.ColumnSets.{column_at}
use Rattle.ps_board.specs.Histories.{BoardShown}
use Rattle.ps_board.specs.Rows.{DifferOnlyOn}
use Rattle.ps_rows.specs.Members.{on_layer}
use Rattle.ps_rows.specs.MixedPlanes.{mixed_planes}
use Rattle.ps_rows.specs.Planes.{AreSameFrom, has_cell}
use Rattle.ps_rows.specs.Showing.{AreMotionsShown, AreObjectsShown, cell_shown, cells_shown, grid_shown, motion_shown}
use Rattle.ps_rows.specs.Showing.{motions_from, object_shown, slot_shown}
use Rattle.ps_rows.specs.RowHistories.{IsBoard, kept, shown}
use Rattle.ps_rows.proofs.Alike.{other_motions, other_objects}
use Rattle.ps_rows.proofs.Listed.{find_same}
use Rattle.ps_rows.proofs.MixedPlanes.{mixed_off, mixed_on}
use Rattle.ps_rows.proofs.Moves.{first_motion-same}
use Rattle.ps_rows.proofs.RowHistories.{alike_shown}
use Rattle.ps_rows.proofs.RowsApart.{slot_apart, slot_by}
use Rattle.ps_rows.proofs.Tables.{tabled_same}

module _ (table : List ℕ) (height : ℕ) (rows : List Bool) (first second : List (List Bool)) (some : 0 < height)
    (long : length second ≡ length first) where
  abbrev mixed : List (List Bool)
  mixed = mixed_planes height rows first second

  -- a cell of a row that is in the set, and of one that isn't
  cell_on : (c p : ℕ) → column_at rows (c % height) ≡ true → has_cell height mixed c p ≡ has_cell height second c p
  unfolding has_cell
  cell_on c p on =
      ap (λ (word : List Bool). column_at word (c / height))
      (mixed_on height rows first second long p (c % height) (mod_below c height some) on)

  cell_off : (c p : ℕ) → column_at rows (c % height) ≡ false → has_cell height mixed c p ≡ has_cell height first c p
  unfolding has_cell
  cell_off c p off =
      ap (λ (word : List Bool). column_at word (c / height))
      (mixed_off height rows first second long p (c % height) (mod_below c height some) off)

  object_on : (c l : ℕ) → column_at rows (c % height) ≡ true →
      object_shown table height mixed c l ≡ object_shown table height second c l
  unfolding object_shown
  object_on c l on =
      find_same (has_cell height mixed c) (has_cell height second c) (on_layer table l) (λ o listed. cell_on c o on)

  object_off : (c l : ℕ) → column_at rows (c % height) ≡ false →
      object_shown table height mixed c l ≡ object_shown table height first c l
  unfolding object_shown
  object_off c l off =
      find_same (has_cell height mixed c) (has_cell height first c) (on_layer table l) (λ o listed. cell_off c o off)

  slot_on : (c l : ℕ) → column_at rows (c % height) ≡ true →
      slot_shown table height mixed c l ≡ slot_shown table height second c l
  unfolding motion_shown
  slot_on c l on =
      slot_by table height mixed second c l (object_on c l on)
      (first_motion-same (has_cell height mixed c) (has_cell height second c) (motions_from table l) (λ q low high.
      cell_on c q on))

  slot_off : (c l : ℕ) → column_at rows (c % height) ≡ false →
      slot_shown table height mixed c l ≡ slot_shown table height first c l
  unfolding motion_shown
  slot_off c l off =
      slot_by table height mixed first c l (object_off c l off)
      (first_motion-same (has_cell height mixed c) (has_cell height first c) (motions_from table l) (λ q low high.
      cell_off c q off))

  -- it is a board
  pub mixed_objects : (cells : ℕ) → AreObjectsShown table height first cells →
      AreObjectsShown table height second cells → AreObjectsShown table height mixed cells
  mixed_objects cells shown showing = λ c o l inside own. elim (cases_Bool (column_at rows (c % height))) [
    | inl on ↦ cell_on c o on ∙ showing c o l inside own ∙ sym (ap (λ (x : Option ℕ). is_number x o) (object_on c l on))
    | inr off ↦ cell_off c o off ∙ shown c o l inside own
        ∙ sym (ap (λ (x : Option ℕ). is_number x o) (object_off c l off))
  ]

  pub mixed_motions : (layers cells : ℕ) → AreMotionsShown table layers height first cells →
      AreMotionsShown table layers height second cells → AreMotionsShown table layers height mixed cells
  mixed_motions layers cells shown showing = λ c l motion p inside on_board is.
      elim (cases_Bool (column_at rows (c % height))) [
        | inl on ↦ cell_on c p on ∙ showing c l motion p inside on_board is
            ∙ sym (ap (λ (s : Slot). same_motion motion (motion_in s)) (slot_on c l on))
        | inr off ↦ cell_off c p off ∙ shown c l motion p inside on_board is
            ∙ sym (ap (λ (s : Slot). same_motion motion (motion_in s)) (slot_off c l off))
      ]

  -- where the others rows have the same objects, and no motions are known to differ, it shows what the second one does
  module _ (width layers : ℕ) (rest : AreSameFrom (length table * height) first second)
      (apart : DifferOnlyOn rows (grid_shown table width height layers first)
      (grid_shown table width height layers second)) where
    slot_mixed : (c l : ℕ) → c < width * height → l < layers →
        slot_shown table height mixed c l ≡ slot_shown table height second c l
    slot_mixed c l inside below = elim (cases_Bool (column_at rows (c % height))) [
      | inl on ↦ slot_on c l on
      | inr off ↦ slot_off c l off
          ∙ slot_apart table width height layers rows first second some rest apart c l inside below off
    ]

    pub mixed_shown : grid_shown table width height layers mixed ≡ grid_shown table width height layers second
    unfolding cells_shown cell_shown
    mixed_shown =
        ap (λ (cells : List (List Slot)).
        let g : Grid = record { width = width; height = height; layers = layers; cells = cells } in g)
        (tabled_same (cell_shown table layers height mixed) (cell_shown table layers height second) (width * height)
        (λ c inside. tabled_same (slot_shown table height mixed c) (slot_shown table height second c) layers
        (λ l below. slot_mixed c l inside below)))

-- a board whose planes became those, mixed with another one's, of the same size for the same game
module _ (table table' : List ℕ) (width width' height height' layers layers' : ℕ) (rows : List Bool)
    (now first others : List (List Bool)) (some : 0 < height) (long : length others ≡ length first)
    (same : table' ≡ table) (wide : width' ≡ width) (high : height' ≡ height) (deep : layers' ≡ layers)
    (are : now ≡ mixed_planes height rows first others) where
  pub mixed_alike : AreSameFrom (length table * height) first others →
      DifferOnlyOn rows (grid_shown table width height layers first) (grid_shown table' width' height' layers' others) →
      shown (kept table width height layers now) ≡ shown (kept table' width' height' layers' others)
  mixed_alike rest apart =
      let here = rw (same, wide, high, deep) at apart in
      ap (λ (g : Grid). let s : BoardShown = record { table = Some table; grid = g } in s)
      (ap (λ (words : List (List Bool)). grid_shown table width height layers words) are
      ∙ mixed_shown table height rows first others some long width layers rest here)
      ∙ alike_shown table table' width width' height height' layers layers' others others same wide high deep refl

  pub mixed_board : AreObjectsShown table height first (width * height) →
      AreMotionsShown table layers height first (width * height) →
      AreObjectsShown table' height' others (width' * height') →
      AreMotionsShown table' layers' height' others (width' * height') → IsBoard (kept table width height layers now)
  mixed_board objects motions objects' motions' = record {
    objects = rw are
        (mixed_objects table height rows first others some long (width * height) objects
        (other_objects table table' width width' height height' others same wide high objects'));
    motions = rw are
        (mixed_motions table height rows first others some long layers (width * height) motions
        (other_motions table table' width width' height height' layers layers' others same wide high deep motions'));
  }
