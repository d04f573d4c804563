-- Planes of two boards, mixed: row by row, and what leads to them.
use Rattle.std.proofs.Common.{◌≡◌, ◌∙◌, ℕ, ◌+◌, ◌*◌, ◌/◌, ◌%◌, ◌<◌, ◌≤◌, ◌&&◌, inl, inr, Bool, true, false, List}
use Rattle.std.proofs.Common.{length, refl, sym, ap, arith, subst}
use Rattle.std.specs.Prelude.{if◌then◌else◌}
use Rattle.std.proofs.Math.Bool.{and-true}
use Rattle.std.proofs.lemmas.Bool.{cases_Bool, cases_lt, lt-ltb}
use Rattle.std.proofs.lemmas.Nat.{mod-mul-add, mod_below}
use Rattle.std.proofs.lemmas.List.{get_or_default, get_or_past, same_lists}
use Rattle.std.proofs.lemmas.List.FromFn.{length-map-range_with_len}
use Rattle.ps_model.specs.declared.limits.TheConstants.{SIDE_LIMIT}
use Rattle.ps_board.specs.ColumnSets.{both_columns, column_at, columns_below, no_columns}
use Rattle.ps_board.proofs.ColumnLaws.{below_at}
use Rattle.ps_board.proofs.Taken.{in_both}
use Rattle.ps_rows.specs.MixedPlanes.{mixed_planes, mixed_row}
use Rattle.ps_rows.specs.PlaneCopies.{AreRowsOf}
use Rattle.ps_rows.specs.Planes.{AreSameFrom, AreSets, IsSet, row_of}
use Rattle.ps_rows.specs.RowDifferences.{Difference, LeadBothWays}
use Rattle.ps_rows.specs.Sameness.{DifferOnlyOnRows}
use Rattle.ps_rows.proofs.PlaneCopies.{at_place, behind_plane}
use Rattle.ps_rows.proofs.RowCopies.{not_wanted}
use Rattle.ps_rows.proofs.RowsAdded.{AreAdded}
use Rattle.ps_rows.proofs.Sets.{both_at}
use Rattle.ps_rows.proofs.Tables.{tabled_at, tabled_same}

-- a set of all that there is room for has each row
pub all_rows : (limit height : ℕ) (all : List Bool) → all ≡ columns_below limit → height ≤ limit →
    height ≤ SIDE_LIMIT → (row : ℕ) → row < height → column_at all row ≡ true
all_rows limit height all is room short = λ row under.
    let low : row < SIDE_LIMIT = omega (arith, under, short) in
    let within : row < limit = omega (arith, under, room) in
    ap (λ (set : List Bool). column_at set row) is ∙ below_at limit row low ∙ lt-ltb row limit within

-- two rows that are the same one
either_same : (b : Bool) (x y z : List Bool) → x ≡ z → y ≡ z → (if b then x else y) ≡ z
either_same true x y z e f = e
either_same false x y z e f = f

either_set : (b : Bool) (x y : List Bool) → IsSet x → IsSet y → IsSet (if b then x else y)
either_set true x y is so = is
either_set false x y is so = so

module _ (height : ℕ) (rows : List Bool) (first second : List (List Bool)) where
  abbrev mixed : List (List Bool)
  mixed = mixed_planes height rows first second

  pub length-mixed : length mixed ≡ length first
  unfolding mixed_planes
  length-mixed = length-map-range_with_len (mixed_row height rows first second) 0 (length first)

  -- the set without what is beyond the height
  pub mixed_within : (all within : List Bool) → 0 < height → height ≤ SIDE_LIMIT → all ≡ columns_below height →
      within ≡ both_columns rows all → mixed_planes height within first second ≡ mixed
  unfolding mixed_planes
  mixed_within all within some short is both =
      tabled_same (mixed_row height within first second) (mixed_row height rows first second) (length first)
      (λ place inside.
      let row : ℕ = place % height in
      let under : row < height = mod_below place height some in
      ap (λ (b : Bool). if b then row_of second place else row_of first place)
      (in_both rows all within height row is both (omega (arith, under, short))
      ∙ ap (λ (t : Bool). column_at rows row && t) (lt-ltb row height under) ∙ and-true (column_at rows row)))

  module _ (long : length second ≡ length first) where
    mixed_at : (place : ℕ) → row_of mixed place ≡ mixed_row height rows first second place
    unfolding mixed_planes
    mixed_at place = elim (cases_lt place (length first)) [
      | inl inside ↦ tabled_at (mixed_row height rows first second) (length first) place no_columns inside
      | inr past ↦
          get_or_past mixed place no_columns (omega (arith, past, length-mixed))
          ∙ sym (either_same (column_at rows (place % height)) (row_of second place) (row_of first place) no_columns
          (get_or_past second place no_columns (omega (arith, past, long))) (get_or_past first place no_columns past))
    ]

    -- a row of the set, and one that isn't
    pub mixed_on : (plane row : ℕ) → row < height → column_at rows row ≡ true →
        row_of mixed (plane * height + row) ≡ row_of second (plane * height + row)
    mixed_on plane row under on =
        mixed_at (plane * height + row)
        ∙ ap (λ (b : Bool). if b then row_of second (plane * height + row) else row_of first (plane * height + row))
        (ap (column_at rows) (mod-mul-add plane height row under) ∙ on)

    pub mixed_off : (plane row : ℕ) → row < height → column_at rows row ≡ false →
        row_of mixed (plane * height + row) ≡ row_of first (plane * height + row)
    mixed_off plane row under off =
        mixed_at (plane * height + row)
        ∙ ap (λ (b : Bool). if b then row_of second (plane * height + row) else row_of first (plane * height + row))
        (ap (column_at rows) (mod-mul-add plane height row under) ∙ off)

    -- what is the same on both boards
    pub mixed_same : (place : ℕ) → row_of first place ≡ row_of second place → row_of first place ≡ row_of mixed place
    mixed_same place same =
        sym (mixed_at place
        ∙ either_same (column_at rows (place % height)) (row_of second place) (row_of first place) (row_of first place)
        (sym same) refl)

    pub mixed_plane : (plane : ℕ) → DifferOnlyOnRows height plane first second no_columns →
        DifferOnlyOnRows height plane first mixed no_columns
    mixed_plane plane same = λ row under off. mixed_same (plane * height + row) (same row under off)

    pub mixed_sets : AreSets first → AreSets second → AreSets mixed
    mixed_sets firsts seconds = λ place.
        let P : List Bool → Type 0 = λ set. IsSet set in
        subst P (sym (mixed_at place))
        (either_set (column_at rows (place % height)) (row_of second place) (row_of first place) (seconds place)
        (firsts place))

    -- where the rows of the first planes were copied, and the others are the same
    pub mixed_copied : (end : ℕ) (after : List (List Bool)) → 0 < height → AreSameFrom (end * height) second first →
        length after ≡ length first → AreRowsOf height 0 end rows second first after → after ≡ mixed
    mixed_copied end after some rest same are =
        let each : (plane row : ℕ) → row < height →
        row_of after (plane * height + row) ≡ row_of mixed (plane * height + row) =
        λ plane row under. elim (cases_Bool (column_at rows row)) [
          | inl on ↦ elim (cases_lt plane end) [
            | inl early ↦ are.copied plane row under (omega arith) early on ∙ sym (mixed_on plane row under on)
            | inr late ↦
                let more : end * height ≤ plane * height = behind_plane height end plane late in
                are.behind plane row under late
                ∙ sym (mixed_on plane row under on ∙ rest (plane * height + row) (omega (arith, more)))
          ]
          | inr off ↦ are.left plane row under off ∙ sym (mixed_off plane row under off)
        ] in
        same_lists after mixed (same ∙ sym length-mixed)
        (λ place d inside.
        let here : place < length mixed = omega (arith, inside, same, length-mixed) in
        get_or_default after place d no_columns inside ∙ at_place height place after
        ∙ each (place / height) (place % height) (mod_below place height some) ∙ sym (at_place height place mixed)
        ∙ sym (get_or_default mixed place d no_columns here))

    -- where the set has all rows
    pub mixed_all : 0 < height → ((row : ℕ) → row < height → column_at rows row ≡ true) → mixed ≡ second
    mixed_all some all =
        same_lists mixed second (length-mixed ∙ sym long)
        (λ place d inside.
        let here : place < length second = omega (arith, inside, length-mixed, long) in
        get_or_default mixed place d no_columns inside ∙ mixed_at place
        ∙ ap (λ (b : Bool). if b then row_of second place else row_of first place)
        (all (place % height) (mod_below place height some))
        ∙ sym (get_or_default second place d no_columns here))

    -- no row of a plane is added yet: left are those of the set that are marked
    pub mixed_none : (plane : ℕ) (marked left : List Bool) (differences : List Difference) → height ≤ SIDE_LIMIT →
        left ≡ both_columns rows marked →
        ((row : ℕ) → row < SIDE_LIMIT → height ≤ row → column_at rows row ≡ false) →
        ((row : ℕ) → row < height → column_at marked row ≡ false →
        row_of first (plane * height + row) ≡ row_of second (plane * height + row)) →
        LeadBothWays height (plane * height) first mixed differences →
        AreAdded height plane 0 left first mixed differences
    mixed_none plane marked left differences short is within others lead =
        record {
          low = record {
            at = λ row low far.
                ap (λ (set : List Bool). column_at set row) is ∙ both_at rows marked row low
                ∙ ap (λ (b : Bool). b && column_at marked row) (within row low far);
          };
          before = λ row less. absurd (omega (arith, less));
          same = λ row from under out. elim (cases_Bool (column_at rows row)) [
            | inl on ↦
                mixed_same (plane * height + row)
                (others row under (not_wanted rows marked left row (omega (arith, under, short)) is out on))
            | inr off ↦ sym (mixed_off plane row under off)
          ];
          added = rw (let start : plane * height + 0 ≡ plane * height = omega arith in start) lead;
        }
