-- Where a part begins, by the numbers of cells; and its places that leave each other alone.
use Rattle.std.proofs.Common.{◌≡◌, ◌≢◌, ◌∙◌, ℕ, zero, suc, ◌+◌, ◌*◌, ◌/◌, ◌%◌, ◌<◌, ◌≤◌, ◌&&◌, ◌||◌, not, inl, inr}
use Rattle.std.proofs.Common.{cond, Bool, true, false, Option, Some, None}
use Rattle.std.proofs.Common.{List, [], ◌∷◌, length, fold, refl, subst, sym, ap, ap₂, arith}
use Rattle.std.specs.Prelude.{if◌then◌else◌, nat_le, nat_lt, slice_get}
use Rattle.std.proofs.Math.Nat.{add-mul}
use Rattle.std.proofs.lemmas.Bool.{and_parts, cases_lt, lt-ltb}
use Rattle.std.proofs.lemmas.Bool.Decides.{nat_tests}
use Rattle.std.proofs.lemmas.List.{length-map}
use Rattle.std.proofs.lemmas.Nat.{div-add-mod', div-mul-add, div_below, mod-mul-add, mod_below}
use Rattle.std.proofs.Math.Bool.{and-false}
use Rattle.ps_model.specs.declared.limits.TheConstants.{SIDE_LIMIT}
use Rattle.ps_model.specs.board.Grid.{Grid, IsGrid}
use Rattle.ps_model.specs.board.Places.{fits_along, places, search_order}
use Rattle.ps_model.specs.board.Attempts.{applied, combinations}
use Rattle.ps_model.specs.meaning.RuleMeanings.{CellMeaning}
use Rattle.ps_board.specs.ColumnSets.{column_at, set_columns}
use Rattle.ps_board.proofs.ColumnLaws.{first_in, none_in}
use Rattle.ps_board.proofs.PassedColumns.{cell_below}
use Rattle.ps_match.proofs.RowWritten.{told}
use Rattle.ps_program.specs.declared.cells.CompiledCell.{CompiledCell}
use Rattle.ps_program.specs.declared.rows.Axis.{Axis}
use Rattle.ps_program.specs.declared.rows.Axis.TheVariants.{Down, Right}
use Rattle.ps_program.specs.Axes.{direction_of}
use Rattle.ps_places.specs.Lines.{cell_meaning, cells_from, part_fits, part_meaning, step_along}
use Rattle.ps_places.specs.LeavingAlone.{LieAlone, PlacesLieAlone, keeps_mask, starts_behind}
use Rattle.ps_places.specs.PartStarts.{AreStarts, begins_at, columns_on, is_start}
use Rattle.ps_places.proofs.FoundAcross.{fits_with_room}
use Rattle.ps_places.proofs.InGroups.{AreAlone, AreIdle, Keeps, LeaveAlone, after}
use Rattle.ps_places.proofs.InSearchOrder.{searched}
use Rattle.ps_places.proofs.KeepingMasks.{cell_keeps}
use Rattle.ps_places.proofs.PartPlaces.{begins_beyond, begins_from, begins_there, from_is}
use Rattle.ps_places.proofs.PlacesWritten.{all_written, places_from}
use Rattle.ps_places.proofs.Ranges.{flat_map-none}
use Rattle.ps_places.proofs.WrittenToItself.{written_to_itself}

-- the cell with a number is where a place begins
abbrev pub starts_number : Grid → List Bool → List (List Bool) → ℕ → Bool
starts_number g rows starts n = nat_lt n (length g.cells) && is_start rows starts (n % g.height) (n / g.height)

-- whether the cell of a part with an index changes anything
abbrev pub changes_in : Option CompiledCell → Bool
changes_in None = false
changes_in (Some cell) = cell.changes

abbrev pub changes_of : List CompiledCell → ℕ → Bool
changes_of part k = changes_in (slice_get part k)

-- the cell of a part that has such a meaning
pub record IsMeaningOf (table : Option (List ℕ)) (part : List CompiledCell) (k : ℕ) (m : CellMeaning) : Type 0 where
  pub cell : CompiledCell
  pub is : slice_get part k ≡ Some cell
  pub means : cell_meaning table cell ≡ m

pub meaning_of : (table : Option (List ℕ)) (part : List CompiledCell) (k : ℕ) (m : CellMeaning) →
    slice_get (part_meaning table part) k ≡ Some m →
    IsMeaningOf table part k m
meaning_of table [] k m is = absurd (cc)
meaning_of table (cell ∷ part) zero m is = record { cell = cell; is = refl; means = cc }
meaning_of table (cell ∷ part) (suc k) m is =
    let rest = meaning_of table part k m is in record { cell = rest.cell; is = rest.is; means = rest.means }

-- two cells -----------------------------------------------------------------------------------------------------------

alone_parts : (a b c d : Bool) → (if a then not b && c else (not b || d)) ≡ true → a ≡ true → (b ≡ false) × (c ≡ true)
alone_parts true true c d e on = absurd (cc)
alone_parts true false c d e on = (refl, e)
alone_parts false b c d e on = absurd (cc)

alone_second : (a b c d : Bool) → (if a then not b && c else (not b || d)) ≡ true → b ≡ true → d ≡ true
alone_second true true c d e on = absurd (cc)
alone_second true false c d e on = absurd (cc)
alone_second false true c d e on = e
alone_second false false c d e on = absurd (cc)

pub cells_alone : (table : Option (List ℕ)) (part : List CompiledCell) (k distance : ℕ) → LieAlone part distance →
    k + distance < length part →
    LeaveAlone (part_meaning table part) (changes_of part) k (k + distance)
cells_alone table part k distance alone low =
    record {
      one = λ on. by (slice_get part k) (slice_get part (k + distance)) refl refl on;
      first = λ on writing asking w a.
          let first = meaning_of table part k writing w in
          let second = meaning_of table part (k + distance) asking a in
          let does : first.cell.changes ≡ true = ap changes_in (sym first.is) ∙ on in
          let both = alone_parts first.cell.changes second.cell.changes (keeps_mask first.cell second.cell)
          (keeps_mask second.cell first.cell)
          (alone.at k first.cell second.cell first.is second.is) does in
          keeps_of first.cell second.cell writing asking first.means second.means both.1;
      second = λ on writing asking w a.
          let first = meaning_of table part k asking a in
          let second = meaning_of table part (k + distance) writing w in
          let does : second.cell.changes ≡ true = ap changes_in (sym second.is) ∙ on in
          let kept = alone_second first.cell.changes second.cell.changes (keeps_mask first.cell second.cell)
          (keeps_mask second.cell first.cell)
          (alone.at k first.cell second.cell first.is second.is) does in
          keeps_of second.cell first.cell writing asking second.means first.means kept;
    } where
      by : (first second : Option CompiledCell) → slice_get part k ≡ first → slice_get part (k + distance) ≡ second →
          changes_in (slice_get part k) ≡ true →
          changes_in (slice_get part (k + distance)) ≡ false
      by None second i j on = absurd (cc)
      by (Some first) None i j on = ap changes_in j
      by (Some first) (Some second) i j on =
          let does : first.changes ≡ true = ap changes_in (sym i) ∙ on in
          let both = alone_parts first.changes second.changes (keeps_mask first second) (keeps_mask second first)
          (alone.at k first second i j) does in
          ap changes_in j ∙ both.0

      keeps_of : (writing asking : CompiledCell) (w a : CellMeaning) → cell_meaning table writing ≡ w →
          cell_meaning table asking ≡ a →
          keeps_mask writing asking ≡ true → Keeps w a
      keeps_of writing asking w a i j kept =
          subst (λ (m : CellMeaning). Keeps m a) i (subst (λ (m : CellMeaning). Keeps (cell_meaning table writing) m) j
          (cell_keeps table writing asking kept))

pub cells_idle : (table : Option (List ℕ)) (part : List CompiledCell) →
    AreIdle (part_meaning table part) (changes_of part)
cells_idle table part k m is off slots fits =
    let found = meaning_of table part k m is in
    let idle : found.cell.changes ≡ false = ap changes_in (sym found.is) ∙ off in
    ap (λ (n : CellMeaning). n.rewritten slots) (sym found.means)
    ∙ written_to_itself table found.cell idle slots (ap (λ (n : CellMeaning). n.fits slots) found.means ∙ fits)

-- a part begins within the board
pub within_by : (g : Grid) (table : Option (List ℕ)) (axis : Axis) (part : List CompiledCell) (row x : ℕ) → IsGrid g →
    0 < length part →
    row < g.height → begins_at g table axis part row x ≡ true → x < g.width
within_by g table Down part row x grid some under good =
    let both = and_parts (nat_lt x g.width) (nat_le (row + length part) g.height && part_fits g table Down x part row)
    good in
    let first : nat_lt x g.width ≡ true = both.0 in grind (arith, nat_tests, first)
within_by g table Right part row x grid some under good =
    let both = and_parts (nat_le (x + length part) g.width) (part_fits g table Right row part x)
    (sym (fits_with_room g table part row x grid under some) ∙ good) in
    let first : nat_le (x + length part) g.width ≡ true = both.0 in
    let room : x + length part ≤ g.width = grind (arith, nat_tests, first) in omega (arith, room, some)

-- and has room down to the lower edge, if it goes down
pub room_by : (g : Grid) (table : Option (List ℕ)) (part : List CompiledCell) (row x : ℕ) →
    begins_at g table Down part row x ≡ true →
    row + length part ≤ g.height
room_by g table part row x good =
    let both = and_parts (nat_lt x g.width) (nat_le (row + length part) g.height && part_fits g table Down x part row)
    good in
    let more = and_parts (nat_le (row + length part) g.height) (part_fits g table Down x part row) both.1 in
    let room : nat_le (row + length part) g.height ≡ true = more.0 in grind (arith, nat_tests, room)

-- the places of a part ------------------------------------------------------------------------------------------------

module _ (g : Grid) (table : Option (List ℕ)) (axis : Axis) (part : List CompiledCell) (rows : List Bool)
    (starts : List (List Bool))
    (grid : IsGrid g) (some : 0 < length part) (found : AreStarts g table axis part rows starts) where
  abbrev pub begins : ℕ → Bool
  begins = starts_number g rows starts

  -- they are those that are kept
  pub number_begins : (n : ℕ) → n < length g.cells → begins n ≡ begins_from axis g (part_meaning table part) n
  number_begins n low =
      let row : ℕ = n % g.height in
      let x : ℕ = n / g.height in
      let under : row < g.height = mod_below n g.height grid.some_row in
      let across : x < g.width = div_below n g.height g.width grid.some_row (rw (← grid.cells) low) in
      let few : g.width ≤ SIDE_LIMIT = grid.columns in
      ap (λ (b : Bool). b && is_start rows starts row x) (lt-ltb n (length g.cells) low)
      ∙ (found.each row under).at x (omega (arith, across, few))
      ∙ begins_there g table axis part n grid some low

  pub begins_low : (n : ℕ) → begins n ≡ true → n < length g.cells
  begins_low n on =
      let both = and_parts (nat_lt n (length g.cells)) (is_start rows starts (n % g.height) (n / g.height)) on in
      let first : nat_lt n (length g.cells) ≡ true = both.0 in grind (arith, nat_tests, first)

  pub begins_start : (n : ℕ) → begins n ≡ true → is_start rows starts (n % g.height) (n / g.height) ≡ true
  begins_start n on = (and_parts (nat_lt n (length g.cells)) (is_start rows starts (n % g.height) (n / g.height)) on).1

  pub begins_good : (n : ℕ) → begins n ≡ true → begins_at g table axis part (n % g.height) (n / g.height) ≡ true
  begins_good n on =
      let low : n < length g.cells = begins_low n on in
      begins_there g table axis part n grid some low ∙ sym (number_begins n low) ∙ on

  some_meant : 0 < length (part_meaning table part)
  some_meant = let size : length (part_meaning table part) ≡ length part = length-map part (cell_meaning table) in
      omega (arith, size, some)

  pub place_is : (n : ℕ) → n < length g.cells →
      places_from g (direction_of axis) (part_meaning table part) n
      ≡ cond (begins n) (cells_from (step_along axis g.height) n (length (part_meaning table part)) ∷ []) []
  place_is n low =
      from_is g axis (part_meaning table part) n
      ∙ ap (λ (b : Bool). cond b (cells_from (step_along axis g.height) n (length (part_meaning table part)) ∷ []) [])
      (sym (number_begins n low))

  pub fits_there : (n : ℕ) → n < length g.cells → begins n ≡ true →
      fits_along g (part_meaning table part)
      (cells_from (step_along axis g.height) n (length (part_meaning table part))) ≡ true
  fits_there n low on =
      (and_parts _ (fits_along g (part_meaning table part)
      (cells_from (step_along axis g.height) n (length (part_meaning table part)))) (sym (number_begins n low)
      ∙ on)).1

  -- without a row there is none
  none_from : set_columns rows ≡ [] → (n : ℕ) → places_from g (direction_of axis) (part_meaning table part) n ≡ []
  none_from none n = elim (cases_lt n (length g.cells)) [
    | inl low ↦
        let under : n % g.height < g.height = mod_below n g.height grid.some_row in
        let few : g.height ≤ SIDE_LIMIT = grid.rows in
        let out : column_at rows (n % g.height) ≡ false = none_in rows (n % g.height) none (omega (arith, under, few))
        in
        let off : begins n ≡ false =
        ap (λ (b : Bool). nat_lt n (length g.cells) && (b && column_at (columns_on starts (n % g.height))
        (n / g.height))) out
        ∙ and-false (nat_lt n (length g.cells)) in
        place_is n low ∙ ap (λ (b : Bool).
        cond b (cells_from (step_along axis g.height) n (length (part_meaning table part)) ∷ []) []) off
    | inr high ↦
        from_is g axis (part_meaning table part) n
        ∙ ap (λ (b : Bool). cond b (cells_from (step_along axis g.height) n (length (part_meaning table part)) ∷ []) [])
        (begins_beyond g axis (part_meaning table part) n some_meant high)
  ]

  pub no_places : set_columns rows ≡ [] → places g (direction_of axis) (part_meaning table part ∷ []) ≡ []
  no_places none = flat_map-none (places_from g (direction_of axis) (part_meaning table part))
      (search_order g (direction_of axis)) (none_from none)

  column_within : (row x : ℕ) → row < g.height → begins_at g table axis part row x ≡ true → x < g.width
  column_within row x under good = within_by g table axis part row x grid some under good

  -- and with one some
  some_place : (row : ℕ) (others : List ℕ) → set_columns rows ≡ row ∷ others →
      places g (direction_of axis) (part_meaning table part ∷ []) ≢ []
  some_place row others is none =
      let on_row = (first_in rows row others is).0 in
      let under : row < g.height = found.below row on_row in
      by (set_columns (columns_on starts row)) refl ((found.each row under).some on_row) where
        by : (xs : List ℕ) → set_columns (columns_on starts row) ≡ xs → 0 < length xs → ⊥
        by [] e more = absurd (omega arith)
        by (x ∷ xs) e more =
            let on_row = (first_in rows row others is).0 in
            let under : row < g.height = found.below row on_row in
            let on_column = first_in (columns_on starts row) x xs e in
            let start : is_start rows starts row x ≡ true = rw (on_row, on_column.0) refl in
            let good : begins_at g table axis part row x ≡ true = sym ((found.each row under).at x on_column.1)
            ∙ start in
            let across : x < g.width = column_within row x under good in
            let n : ℕ = x * g.height + row in
            let low : n < length g.cells = rw grid.cells (cell_below g.width g.height x row across under) in
            let quotient : n / g.height ≡ x = div-mul-add x g.height row under in
            let remainder : n % g.height ≡ row = mod-mul-add x g.height row under in
            let here : begins n ≡ true =
            ap₂ (λ (a b : Bool). a && b) (lt-ltb n (length g.cells) low) (ap₂ (is_start rows starts) remainder quotient
            ∙ start) in
            let empty : places_from g (direction_of axis) (part_meaning table part) n ≡ [] =
            searched g (direction_of axis) (places_from g (direction_of axis) (part_meaning table part)) n grid.some_row
            (rw (← grid.cells) low) none in
            let one : cond true (cells_from (step_along axis g.height) n (length (part_meaning table part)) ∷ []) []
            ≡ [] =
            ap (λ (b : Bool). cond b
            (cells_from (step_along axis g.height) n (length (part_meaning table part)) ∷ []) []) (sym here)
            ∙ sym (place_is n low) ∙ empty in
            absurd (cc)

  pub place_somewhere : 0 < length (set_columns rows) → places g (direction_of axis) (part_meaning table part ∷ []) ≢ []
  place_somewhere more = by (set_columns rows) refl more where
    by : (xs : List ℕ) → set_columns rows ≡ xs → 0 < length xs →
        places g (direction_of axis) (part_meaning table part ∷ []) ≢ []
    by [] e low = absurd (omega arith)
    by (row ∷ others) e low = some_place row others e

  -- places that lie so many cells apart
  behind_by : (a : Axis) → a ≡ axis → (n distance : ℕ) → distance < length part → begins n ≡ true →
      begins (n + distance * step_along a g.height) ≡ true → starts_behind a rows starts distance (n % g.height)
      (n / g.height) ≡ true
  behind_by Down same n distance low on there =
      let row : ℕ = n % g.height in
      let x : ℕ = n / g.height in
      let place : x * g.height + row ≡ n = div-add-mod' n g.height in
      let room : row + length part ≤ g.height = room_by g table part row x
      (subst (λ (a : Axis). begins_at g table a part row x ≡ true) (sym same) (begins_good n on)) in
      let under : row + distance < g.height = omega (arith, room, low) in
      let next : n + distance * 1 ≡ x * g.height + (row + distance) = omega (arith, place) in
      let start = begins_start (n + distance * 1) there in
      ap₂ (is_start rows starts)
      (sym (ap (λ (k : ℕ). k % g.height) next ∙ mod-mul-add x g.height (row + distance) under))
      (sym (ap (λ (k : ℕ). k / g.height) next ∙ div-mul-add x g.height (row + distance) under)) ∙ start
  behind_by Right same n distance low on there =
      let row : ℕ = n % g.height in
      let x : ℕ = n / g.height in
      let place : x * g.height + row ≡ n = div-add-mod' n g.height in
      let under : row < g.height = mod_below n g.height grid.some_row in
      let split : (x + distance) * g.height ≡ x * g.height + distance * g.height = add-mul x distance g.height in
      let next : n + distance * g.height ≡ (x + distance) * g.height + row = omega (arith, place, split) in
      let start = begins_start (n + distance * g.height) there in
      ap₂ (is_start rows starts)
      (sym (ap (λ (k : ℕ). k % g.height) next ∙ mod-mul-add (x + distance) g.height row under))
      (sym (ap (λ (k : ℕ). k / g.height) next ∙ div-mul-add (x + distance) g.height row under)) ∙ start

  -- leave each other alone
  pub places_alone : PlacesLieAlone axis part rows starts → AreAlone begins (step_along axis g.height)
      (part_meaning table part) (changes_of part)
  places_alone alone =
      record {
        at = λ n distance k more low on there.
            let size : length (part_meaning table part) ≡ length part = length-map part (cell_meaning table) in
            let few : distance < length part = omega (arith, low, size) in
            let small : n < length g.cells = begins_low n on in
            let under : n % g.height < g.height = mod_below n g.height grid.some_row in
            let across : n / g.height < g.width = div_below n g.height g.width grid.some_row (rw (← grid.cells) small)
            in
            let high : g.height ≤ SIDE_LIMIT = grid.rows in
            let wide : g.width ≤ SIDE_LIMIT = grid.columns in
            cells_alone table part k distance
            ((alone.each distance more few).at (n % g.height) (n / g.height) (omega (arith, under, high))
            (omega (arith, across, wide)) (begins_start n on)
            (behind_by axis refl n distance few on there))
            (omega (arith, low, size));
      }

  -- all of them, applied in their order
  pub all_applied : (alone : PlacesLieAlone axis part rows starts) →
      fold (applied ((part_meaning table part ∷ []) ∷ [])) (told g false)
      (combinations (places g (direction_of axis) (part_meaning table part ∷ []) ∷ []))
      ≡ after g begins (step_along axis g.height) (part_meaning table part) (changes_of part) (places_alone alone)
      (λ n. true)
  all_applied alone =
      all_written g (direction_of axis) (step_along axis g.height) begins (part_meaning table part) (changes_of part)
      (places_alone alone)
      (cells_idle table part) place_is fits_there grid.some_row grid.cells
