-- Sets of the motions that a board has, layer by layer.
use Rattle.std.proofs.Common.{◌≡◌, ◌≢◌, ◌∙◌, ℕ, ◌+◌, ◌-◌, ◌*◌, ◌%◌, ◌<◌, ◌≤◌, inl, inr, Bool, true, false, not, ◌&&◌}
use Rattle.std.proofs.Common.{List, [], Option, Some, None, refl, sym, ap, ap₂, subst, arith}
use Rattle.std.specs.Prelude.{nat_le, option_map}
use Rattle.std.proofs.lemmas.Bool.{cases_eq, cases_lt, false≢true, lt-ltb}
use Rattle.std.proofs.lemmas.Bool.Decides.{nat_tests}
use Rattle.std.proofs.lemmas.Option.{none-some, same_Some}
use Rattle.ps_model.specs.declared.limits.TheConstants.{SIDE_LIMIT}
use Rattle.ps_model.specs.declared.pieces.Direction.TheVariants.{Up, Down, Left, Right}
use Rattle.ps_model.specs.declared.pieces.Motion.{Motion}
use Rattle.ps_model.specs.declared.pieces.Motion.TheVariants.{Still, Going, Acting}
use Rattle.ps_model.specs.declared.compiled.MotionTest.{MotionTest}
use Rattle.ps_model.specs.board.Grid.{Grid, motion_in, slot_at}
use Rattle.ps_model.specs.meaning.Fitting.{same_motion}
use Rattle.ps_board.specs.ColumnSets.{both_columns, column_at, columns_ahead, columns_below, no_columns, set_columns}
use Rattle.ps_board.specs.ColumnSets.{with_column}
use Rattle.ps_board.specs.RowsOfGrids.{MoveOnlyOn, is_moving}
use Rattle.ps_board.proofs.ColumnLaws.{below_at, column_at-where, none_in, with_here, with_other}
use Rattle.ps_program.specs.MotionSets.{motion_place, place_on_layer}
use Rattle.ps_program.specs.declared.motion_sets.TheConstants.{MOTIONS, PLACED_LAYERS}
use Rattle.ps_program.proofs.MotionSets.{place_low}
use Rattle.ps_match.specs.Nowhere.{HasMotionsIn, MovesNowhere}
use Rattle.ps_rows.specs.LayerMotions.{AreMotionsTold}
use Rattle.ps_rows.specs.Planes.{row_of}
use Rattle.ps_rows.specs.RowIndex.{AreRowsMarked}
use Rattle.ps_rows.specs.Showing.{AreMotionsShown, grid_shown, motion_plane, motions_from}
use Rattle.ps_rows.proofs.Scans.{beyond_row}
use Rattle.ps_rows.proofs.Sets.{both_at, none_at}
use Rattle.ps_rows.proofs.Unmarked.{none_moves}

-- one place more ------------------------------------------------------------------------------------------------------

module _ (P : ℕ → Type 0) (start : ℕ) where
  pub no_places : (set : List Bool) (k : ℕ) → k < 0 → column_at set (start + k) ≡ false → P k
  no_places set k under off = absurd (omega arith)

  pub places_more : (count next place : ℕ) (before after : List Bool) (on : Bool) → place ≡ start + count →
      next ≡ count + 1 → start + count < SIDE_LIMIT → after ≡ with_column before place on → (on ≡ false → P count) →
      ((k : ℕ) → k < count → column_at before (start + k) ≡ false → P k) → (k : ℕ) → k < next →
      column_at after (start + k) ≡ false → P k
  places_more count next place before after on is more low with here others k under off = elim (cases_eq k count) [
    | inl e ↦
        let at : start + k ≡ place = omega (arith, e, is) in
        let told : column_at after place ≡ on =
        ap (λ (set : List Bool). column_at set place) with ∙ with_here before place on (omega (arith, is, low)) in
        subst P (sym e) (here (sym told ∙ ap (column_at after) (sym at) ∙ off))
    | inr n ↦
        let few : k < count = omega (arith, under, more, n) in
        let apart : start + k ≢ place = omega (arith, few, is) in
        others k few
        (sym (ap (λ (set : List Bool). column_at set (start + k)) with
        ∙ with_other before place (start + k) on (omega (arith, few, low)) apart) ∙ off)
  ]

-- places that have moved up by some
pub ahead_at : (set moved : List Bool) (limit count k : ℕ) →
    moved ≡ both_columns (columns_below limit) (columns_ahead set count) → limit ≤ SIDE_LIMIT → count + k < limit →
    column_at moved (count + k) ≡ column_at set k
ahead_at set moved limit count k is few inside =
    let low : count + k < SIDE_LIMIT = omega (arith, inside, few) in
    let from : nat_le count (count + k) ≡ true = grind (arith, nat_tests) in
    let back : count + k - count ≡ k = omega arith in
    ap (λ (w : List Bool). column_at w (count + k)) is
    ∙ both_at (columns_below limit) (columns_ahead set count) (count + k) low
    ∙ ap₂ (λ (p q : Bool). p && q) (below_at limit (count + k) low ∙ lt-ltb (count + k) limit inside)
    (column_at-where (λ x. nat_le count x && column_at set (x - count)) (count + k) low
    ∙ ap₂ (λ (p q : Bool). p && q) from (ap (column_at set) back))

-- a plane without a marked row
pub unmarked : (index : List (List Bool)) (plane own : ℕ) (rows : List Bool) (empty : Bool) →
    rows ≡ row_of index plane → plane ≡ own → (empty ≡ true → set_columns rows ≡ []) → not empty ≡ false →
    set_columns (row_of index own) ≡ []
unmarked index plane own rows true told is none off =
    sym (ap set_columns (told ∙ ap (row_of index) is)) ∙ none refl
unmarked index plane own rows false told is none off = absurd (false≢true (sym off))

-- places and planes ---------------------------------------------------------------------------------------------------

-- a motion has one number among those of its layer, for its place and for its plane
record Numbered (motion : Motion) (k : ℕ) : Type 0 where
  low : k < MOTIONS
  plane : (first : ℕ) → motion_plane first motion ≡ Some (first + k)
  going : same_motion motion Still ≡ false

numbered : (motion : Motion) (k : ℕ) → place_on_layer motion ≡ Some k → Numbered motion k
numbered Still k e = absurd (none-some k e)
numbered (Going Up) k e =
    let is : 0 ≡ k = same_Some 0 k e in
    record { low = omega (arith, is); plane = λ first. ap Some (omega (arith, is)); going = refl }
numbered (Going Down) k e =
    let is : 1 ≡ k = same_Some 1 k e in
    record { low = omega (arith, is); plane = λ first. ap Some (omega (arith, is)); going = refl }
numbered (Going Left) k e =
    let is : 2 ≡ k = same_Some 2 k e in
    record { low = omega (arith, is); plane = λ first. ap Some (omega (arith, is)); going = refl }
numbered (Going Right) k e =
    let is : 3 ≡ k = same_Some 3 k e in
    record { low = omega (arith, is); plane = λ first. ap Some (omega (arith, is)); going = refl }
numbered Acting k e =
    let is : 4 ≡ k = same_Some 4 k e in
    record { low = omega (arith, is); plane = λ first. ap Some (omega (arith, is)); going = refl }

-- the motion of a layer that has a place
record Placed (layer : ℕ) (motion : Motion) (place : ℕ) : Type 0 where
  number : ℕ
  is : place ≡ MOTIONS * (layer % PLACED_LAYERS) + number
  own : Numbered motion number

placed_among : (layer : ℕ) (motion : Motion) (place : ℕ) (found : Option ℕ) → place_on_layer motion ≡ found →
    option_map (λ own. MOTIONS * (layer % PLACED_LAYERS) + own) found ≡ Some place → Placed layer motion place
placed_among layer motion place None there e = absurd (none-some place e)
placed_among layer motion place (Some k) there e =
    record {
      number = k;
      is = sym (same_Some (MOTIONS * (layer % PLACED_LAYERS) + k) place e);
      own = numbered motion k there;
    }

is_placed : (layer : ℕ) (motion : Motion) (place : ℕ) → motion_place layer motion ≡ Some place →
    Placed layer motion place
is_placed layer motion place e = placed_among layer motion place (place_on_layer motion) refl e

-- layers --------------------------------------------------------------------------------------------------------------

-- no cell of the grid has a motion of one of the layers below one whose place isn't in a set
abbrev pub HasMotionsBelow : Grid → ℕ → List Bool → Type 0
HasMotionsBelow g layers motions = (test : MotionTest) (place : ℕ) → test.layer.0 < layers →
    motion_place test.layer.0 test.motion ≡ Some place → column_at motions place ≡ false → MovesNowhere g test

pub none_below : (g : Grid) (motions : List Bool) → HasMotionsBelow g 0 motions
none_below g motions = λ test place low is off. absurd (omega (arith, low))

-- what rests isn't about to do what is asked for
rests : (asked motion : Motion) → same_motion asked Still ≡ false → not (same_motion Still motion) ≡ false →
    same_motion asked motion ≡ false
rests asked Still going still = going
rests asked (Going Up) going still = absurd (false≢true (sym still))
rests asked (Going Down) going still = absurd (false≢true (sym still))
rests asked (Going Left) going still = absurd (false≢true (sym still))
rests asked (Going Right) going still = absurd (false≢true (sym still))
rests asked Acting going still = absurd (false≢true (sym still))

-- a layer on which nothing moves
pub layer_passed : (g : Grid) (layer next : ℕ) (rows motions : List Bool) → g.height ≤ SIDE_LIMIT → next ≡ layer + 1 →
    MoveOnlyOn g layer rows → set_columns rows ≡ [] → HasMotionsBelow g layer motions →
    HasMotionsBelow g next motions
layer_passed g layer next rows motions short more only none before =
    λ test place low is off. elim (cases_eq (test.layer).0 layer) [
      | inl e ↦
          let there : Placed (test.layer).0 test.motion place = is_placed (test.layer).0 test.motion place is in
          λ row under x across.
          rests test.motion (motion_in (slot_at g (x * g.height + row) (test.layer).0)) there.own.going
          (ap (λ (n : ℕ). is_moving (slot_at g (x * g.height + row) n)) e
          ∙ only row under (none_in rows row none (omega (arith, under, short))) x across)
      | inr n ↦ before test place (omega (arith, low, more, n)) is off
    ]

module _ (table : List ℕ) (width height layers : ℕ) (words : List (List Bool)) (some : 0 < height)
    (narrow : width ≤ SIDE_LIMIT) (short : height ≤ SIDE_LIMIT)
    (shown : AreMotionsShown table layers height words (width * height)) where
  g : Grid
  g = grid_shown table width height layers words

  -- a layer of which the index tells
  pub layer_told : (index : List (List Bool)) (count layer next : ℕ) (motions more : List Bool) →
      motions_from table layers ≤ count → AreRowsMarked count height words index → layer < layers →
      next ≡ layer + 1 → AreMotionsTold table index layer motions more →
      HasMotionsBelow (grid_shown table width height layers words) layer motions →
      HasMotionsBelow (grid_shown table width height layers words) next more
  layer_told index count layer next motions more counted marked on behind told before =
      λ test place low is off.
      let there : Placed (test.layer).0 test.motion place = is_placed (test.layer).0 test.motion place is in
      elim (cases_eq (test.layer).0 layer) [
        | inl e ↦
            let same : (test.layer).0 % PLACED_LAYERS ≡ layer % PLACED_LAYERS =
            ap (λ (n : ℕ). n % PLACED_LAYERS) e in
            let at : MOTIONS * (layer % PLACED_LAYERS) + there.number ≡ place = omega (arith, there.is, same) in
            let none : set_columns (row_of index (motions_from table layer + there.number)) ≡ [] =
            told.own there.number there.own.low (ap (column_at more) at ∙ off) in
            let own : motions_from table layer ≡ motions_from table (test.layer).0 =
            ap (λ (n : ℕ). motions_from table n) (sym e) in
            λ row under.
            none_moves table width height layers words row some narrow under index count test
            (motions_from table (test.layer).0 + there.number) shown counted marked (omega (arith, on, e))
            (there.own.plane (motions_from table (test.layer).0))
            (ap (λ (n : ℕ). column_at (row_of index (n + there.number)) row) (sym own)
            ∙ none_in (row_of index (motions_from table layer + there.number)) row none (omega (arith, under, short)))
        | inr n ↦
            let below : (test.layer).0 < layer = omega (arith, low, behind, n) in
            before test place below is
            (told.kept place (place_low (test.layer).0 test.motion place is) off)
      ]

  -- the layers of the board, and those that it doesn't have
  pub all_told : (end : ℕ) (motions : List Bool) → layers ≤ end →
      HasMotionsBelow (grid_shown table width height layers words) end motions →
      HasMotionsIn (grid_shown table width height layers words) motions
  all_told end motions all before = λ test place is off.
      let there : Placed (test.layer).0 test.motion place = is_placed (test.layer).0 test.motion place is in
      elim (cases_lt (test.layer).0 layers) [
        | inl on ↦ before test place (omega (arith, on, all)) is off
        | inr far ↦ λ row under x across.
            sym (beyond_row table width height layers words row some narrow under test no_columns far
            (λ y low. none_at y ∙ sym there.own.going) x across) ∙ none_at x
      ]
