-- Two boards of the same size for the same game that show the same objects outside of some rows, and the same motions:
-- where they show the same slots.
use Rattle.std.proofs.Common.{◌≡◌, ◌∙◌, ℕ, ◌+◌, ◌*◌, ◌/◌, ◌%◌, ◌<◌, ◌≤◌, inl, inr, Bool, false, Option, None}
use Rattle.std.proofs.Common.{List, [], get_or, length, map, refl, sym, ap, arith, subst}
use Rattle.std.specs.List.{range_with_len}
use Rattle.std.proofs.lemmas.Bool.{cases_Bool}
use Rattle.std.proofs.lemmas.Nat.{div_below, div-add-mod', mod_below}
use Rattle.std.proofs.lemmas.Simd.{map-map}
use Rattle.ps_model.specs.declared.pieces.ObjectId.{ObjectId}
use Rattle.ps_model.specs.board.Grid.{cell_at, object_in}
use Rattle.ps_board.specs.ColumnSets.{column_at}
use Rattle.ps_board.specs.Rows.{DifferOnlyOn}
use Rattle.ps_rows.specs.Members.{on_layer}
use Rattle.ps_rows.specs.Planes.{AreSameFrom, has_cell}
use Rattle.ps_rows.specs.Sameness.{AreSamePlanesOn, IsSameLayer}
use Rattle.ps_rows.specs.Showing.{cell_shown, cells_shown, grid_shown, motion_shown, motions_from, object_shown}
use Rattle.ps_rows.specs.Showing.{slot_shown}
use Rattle.ps_rows.proofs.Alike.{back, slot_object}
use Rattle.ps_rows.proofs.Listed.{find_same}
use Rattle.ps_rows.proofs.Moves.{first_motion-same}
use Rattle.ps_rows.proofs.PlaneCopies.{behind_plane}
use Rattle.ps_rows.proofs.Tables.{tabled_at}

-- a slot by its object and its motion
pub slot_by : (table : List ℕ) (height : ℕ) (words others : List (List Bool)) (c l : ℕ) →
    object_shown table height words c l ≡ object_shown table height others c l →
    motion_shown table height words c l ≡ motion_shown table height others c l →
    slot_shown table height words c l ≡ slot_shown table height others c l
unfolding slot_shown
slot_by table height words others c l object motion = rw (object, motion) refl

-- what stands on a layer, among what stands on all of them
pub object_at : (table : List ℕ) (height layers : ℕ) (words : List (List Bool)) (c l : ℕ) → l < layers →
    get_or (map object_in (map (slot_shown table height words c) (range_with_len 0 layers))) l None ≡ object_in
    (slot_shown table height words c l)
object_at table height layers words c l below =
    ap (λ (objects : List (Option ObjectId)). get_or objects l None)
    (map-map object_in (slot_shown table height words c) (range_with_len 0 layers))
    ∙ tabled_at (λ layer. object_in (slot_shown table height words c layer)) layers l None below

-- what is known of another board, of the same size for the same game
pub other_apart : (table table' : List ℕ) (width width' height height' layers layers' : ℕ) (rows : List Bool)
    (first second : List (List Bool)) → table' ≡ table → width' ≡ width → height' ≡ height → layers' ≡ layers →
    DifferOnlyOn rows (grid_shown table width height layers first) (grid_shown table' width' height' layers' second) →
    DifferOnlyOn rows (grid_shown table width height layers first) (grid_shown table width height layers second)
other_apart table table' width width' height height' layers layers' rows first second same wide high deep apart =
    let turned = rw (same, wide, high, deep) at apart in turned

module _ (table : List ℕ) (width height layers : ℕ) (rows : List Bool) (first second : List (List Bool))
    (some : 0 < height) (rest : AreSameFrom (length table * height) first second) where
  -- the planes of motions are the same
  motion_same : (c l : ℕ) → motion_shown table height first c l ≡ motion_shown table height second c l
  unfolding motion_shown has_cell
  motion_same c l =
      first_motion-same (has_cell height first c) (has_cell height second c) (motions_from table l)
      (λ q low high.
      let past : length table ≤ q = omega (arith, low) in
      let more : length table * height ≤ q * height = behind_plane height (length table) q past in
      ap (λ (word : List Bool). column_at word (c / height))
      (rest (q * height + c % height) (omega (arith, more))))

  module _ (apart : DifferOnlyOn rows (grid_shown table width height layers first)
      (grid_shown table width height layers second)) where
    objects_same : (c : ℕ) → c < width * height → column_at rows (c % height) ≡ false →
        map object_in (map (slot_shown table height first c) (range_with_len 0 layers)) ≡ map object_in
        (map (slot_shown table height second c) (range_with_len 0 layers))
    unfolding cells_shown cell_shown
    objects_same c inside off =
        let e : c / height * height + c % height ≡ c = div-add-mod' c height in
        let P : ℕ → Type 0 = λ cell. map object_in (cell_at (grid_shown table width height layers first) cell) ≡
        map object_in (cell_at (grid_shown table width height layers second) cell) in
        sym (ap (map object_in) (tabled_at (cell_shown table layers height first) (width * height) c [] inside))
        ∙ subst P e (apart (c % height) (mod_below c height some) off (c / height)
        (div_below c height width some inside))
        ∙ ap (map object_in) (tabled_at (cell_shown table layers height second) (width * height) c [] inside)

    -- in the other rows the slots are
    pub slot_apart : (c l : ℕ) → c < width * height → l < layers → column_at rows (c % height) ≡ false →
        slot_shown table height first c l ≡ slot_shown table height second c l
    slot_apart c l inside below off =
        slot_by table height first second c l
        (sym (slot_object table height first c l)
        ∙ ap back
        (sym (object_at table height layers first c l below)
        ∙ ap (λ (objects : List (Option ObjectId)). get_or objects l None) (objects_same c inside off)
        ∙ object_at table height layers second c l below)
        ∙ slot_object table height second c l)
        (motion_same c l)

    -- and in these rows too, on a layer whose objects have the same cells there
    pub layer_apart : (l : ℕ) → l < layers →
        AreSamePlanesOn width height rows first second (on_layer table l) →
        IsSameLayer table width height first second l
    unfolding object_shown has_cell
    layer_apart l below same = λ c inside. elim (cases_Bool (column_at rows (c % height))) [
      | inl on ↦
          slot_by table height first second c l
          (find_same (has_cell height first c) (has_cell height second c) (on_layer table l)
          (λ o listed. same o listed (c % height) (mod_below c height some) on (c / height)
          (div_below c height width some inside)))
          (motion_same c l)
      | inr off ↦ slot_apart c l inside below off
    ]
