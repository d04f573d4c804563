-- The places of a part written row by row of the board, and on a row one cell of the part after the other.
use Rattle.std.proofs.Common.{◌≡◌, ◌∙◌, ℕ, ◌+◌, ◌-◌, ◌*◌, ◌/◌, ◌%◌, ◌<◌, ◌≤◌, ◌&&◌, ◌||◌, not, inl, inr}
use Rattle.std.proofs.Common.{Bool, true, false, Option}
use Rattle.std.proofs.Common.{List, [], ◌∷◌, length, fold, refl, subst, sym, ap, ap₂, arith}
use Rattle.std.specs.Prelude.{nat_eq, nat_le, nat_lt}
use Rattle.std.proofs.Math.Nat.{add-mul}
use Rattle.std.proofs.lemmas.Bool.{and_parts, cases_eq, eq-eqb, eqb-true, lt-ltb, ne_eqb, and_from}
use Rattle.std.proofs.lemmas.Bool.Decides.{nat_tests}
use Rattle.std.proofs.lemmas.Nat.{div-add-mod', div-mul-add, div_below, mod-mul-add, mod_below}
use Rattle.std.proofs.Math.Bool.{or-true, or-false}
use Rattle.ps_model.specs.declared.limits.TheConstants.{SIDE_LIMIT}
use Rattle.ps_model.specs.board.Grid.{Grid, IsGrid}
use Rattle.ps_model.specs.board.Attempts.{Rewritten, applied, combinations}
use Rattle.ps_model.specs.board.Places.{places}
use Rattle.ps_laws.proofs.common.Truths.{same_tests}
use Rattle.ps_board.specs.ColumnSets.{column_at, columns_ahead, set_columns}
use Rattle.ps_board.proofs.ColumnLaws.{column_at-where, first_in, none_in}
use Rattle.ps_board.proofs.PassedColumns.{cell_below}
use Rattle.ps_board.proofs.Taken.{taken_gone, taken_out}
use Rattle.ps_match.specs.InRoom.{sides_of}
use Rattle.ps_match.specs.Together.{is_on_row}
use Rattle.ps_program.specs.Axes.{direction_of}
use Rattle.ps_match.proofs.RowWritten.{told}
use Rattle.ps_program.specs.declared.cells.CompiledCell.{CompiledCell}
use Rattle.ps_program.specs.declared.rows.Axis.{Axis}
use Rattle.ps_program.specs.declared.rows.Axis.TheVariants.{Down, Right}
use Rattle.ps_places.specs.Lines.{part_meaning, step_along}
use Rattle.ps_places.specs.LeavingAlone.{PlacesLieAlone}
use Rattle.ps_places.specs.PartStarts.{AreStarts, begins_at, columns_on, is_start}
use Rattle.ps_places.specs.WrittenTogether.{cells_behind, cells_changed, row_at}
use Rattle.ps_places.proofs.InGroups.{AreAlone, after, after-agree, after-none, covers, covers-parts}
use Rattle.ps_places.proofs.InGroups.{during-end, during-start}
use Rattle.ps_places.proofs.RowOfPlaces.{row_written}
use Rattle.ps_places.proofs.StartNumbers.{all_applied, begins_good, begins_start, changes_of, places_alone}
use Rattle.ps_places.proofs.StartNumbers.{room_by, starts_number}

pub le_true : (a b : ℕ) → a ≤ b → nat_le a b ≡ true
le_true a b low = grind (arith, nat_tests, low)

pub true_le : (a b : ℕ) → nat_le a b ≡ true → a ≤ b
true_le a b on = grind (arith, nat_tests, on)

module _ (g : Grid) (table : Option (List ℕ)) (axis : Axis) (part : List CompiledCell) (rows : List Bool)
    (starts : List (List Bool))
    (grid : IsGrid g) (some : 0 < length part) (found : AreStarts g table axis part rows starts)
    (alone : PlacesLieAlone axis part rows starts) where
  abbrev starting : ℕ → Bool
  starting = starts_number g rows starts

  abbrev step : ℕ
  step = step_along axis g.height

  abbrev apart : AreAlone (starts_number g rows starts) (step_along axis g.height) (part_meaning table part)
      (changes_of part)
  apart = places_alone g table axis part rows starts grid some found alone

  -- the places on some rows are done, and those on a row now
  abbrev pub done_but : List Bool → ℕ → Bool
  done_but left n = not (column_at left (n % g.height))

  abbrev pub on_this : ℕ → ℕ → Bool
  on_this row n = nat_eq (n % g.height) row

  abbrev pub rows_done : List Bool → Rewritten
  rows_done left = after g (starts_number g rows starts) (step_along axis g.height) (part_meaning table part)
      (changes_of part) apart (done_but left)

  -- the cells of a row's places with an index -------------------------------------------------------------------------

  started : (e row x : ℕ) → row < g.height → x < g.width → e ≡ x * g.height + row → column_at rows row ≡ true →
      column_at (columns_on starts row) x ≡ true →
      starts_number g rows starts e ≡ true
  started e row x under across is on here =
      let quotient : e / g.height ≡ x = ap (λ (k : ℕ). k / g.height) is ∙ div-mul-add x g.height row under in
      let remainder : e % g.height ≡ row = ap (λ (k : ℕ). k % g.height) is ∙ mod-mul-add x g.height row under in
      let low : e < length g.cells = rw (grid.cells, is) (cell_below g.width g.height x row across under) in
      and_from (nat_lt e (length g.cells)) (is_start rows starts (e % g.height) (e / g.height))
      (lt-ltb e (length g.cells) low)
      (ap₂ (is_start rows starts) remainder quotient
      ∙ and_from (column_at rows row) (column_at (columns_on starts row) x) on here)

  here_down : axis ≡ Down → (row i n : ℕ) → row < g.height → column_at rows row ≡ true → n < length g.cells →
      i < length part →
      is_on_row g.height (row + i) (columns_on starts row) n
      ≡ (covers (starts_number g rows starts) 1 i n && on_this row (n - i * 1))
  here_down down row i n under on low few = same_tests _ _
      (λ here.
      let both = and_parts (nat_eq (n % g.height) (row + i)) (column_at (columns_on starts row) (n / g.height)) here in
      let x : ℕ = n / g.height in
      let across : x < g.width = div_below n g.height g.width grid.some_row (rw (← grid.cells) low) in
      let at : n % g.height ≡ row + i = eqb-true (n % g.height) (row + i) both.0 in
      let place : x * g.height + n % g.height ≡ n = div-add-mod' n g.height in
      let first : n - i * 1 ≡ x * g.height + row = omega (arith, at, place) in
      let far : i * 1 ≤ n = omega (arith, at, place) in
      and_from (covers (starts_number g rows starts) 1 i n) (on_this row (n - i * 1))
      (and_from (nat_le (i * 1) n) (starts_number g rows starts (n - i * 1)) (le_true (i * 1) n far)
      (started (n - i * 1) row x under across first on both.1))
      (eq-eqb ((n - i * 1) % g.height) row (ap (λ (k : ℕ). k % g.height) first ∙ mod-mul-add x g.height row under)))
      (λ there.
      let both = and_parts (covers (starts_number g rows starts) 1 i n) (on_this row (n - i * 1)) there in
      let parts = covers-parts (starts_number g rows starts) 1 i n both.0 in
      let e : ℕ = n - i * 1 in
      let x : ℕ = e / g.height in
      let at : e % g.height ≡ row = eqb-true (e % g.height) row both.1 in
      let place : x * g.height + e % g.height ≡ e = div-add-mod' e g.height in
      let room : e % g.height + length part ≤ g.height =
      room_by g table part (e % g.height) x
      (subst (λ (a : Axis). begins_at g table a part (e % g.height) x ≡ true) down
      (begins_good g table axis part rows starts grid some found e parts.1)) in
      let is : n ≡ x * g.height + (row + i) = omega (arith, place, at, parts.0) in
      let below : row + i < g.height = omega (arith, room, at, few) in
      let start = begins_start g table axis part rows starts grid some found e parts.1 in
      let own = (and_parts (column_at rows (e % g.height)) (column_at (columns_on starts (e % g.height)) x) start).1 in
      and_from (nat_eq (n % g.height) (row + i)) (column_at (columns_on starts row) (n / g.height))
      (eq-eqb (n % g.height) (row + i) (ap (λ (k : ℕ). k % g.height) is ∙ mod-mul-add x g.height (row + i) below))
      (ap (column_at (columns_on starts row)) (ap (λ (k : ℕ). k / g.height) is ∙ div-mul-add x g.height (row + i) below)
      ∙ ap (λ (r : ℕ). column_at (columns_on starts r) x) (sym at) ∙ own))

  here_right : (row i n : ℕ) → row < g.height → column_at rows row ≡ true → n < length g.cells →
      is_on_row g.height row (columns_ahead (columns_on starts row) i) n
      ≡ (covers (starts_number g rows starts) g.height i n && on_this row (n - i * g.height))
  here_right row i n under on low =
      let x : ℕ = n / g.height in
      let across : x < g.width = div_below n g.height g.width grid.some_row (rw (← grid.cells) low) in
      let wide : g.width ≤ SIDE_LIMIT = grid.columns in
      let place : x * g.height + n % g.height ≡ n = div-add-mod' n g.height in
      let moved : column_at (columns_ahead (columns_on starts row) i) x
      ≡ (nat_le i x && column_at (columns_on starts row) (x - i)) =
      column_at-where (λ y. nat_le i y && column_at (columns_on starts row) (y - i)) x (omega (arith, across, wide)) in
      ap (λ (b : Bool). nat_eq (n % g.height) row && b) moved
      ∙ same_tests _ _
      (λ here.
      let both = and_parts (nat_eq (n % g.height) row) (nat_le i x && column_at (columns_on starts row) (x - i)) here in
      let more = and_parts (nat_le i x) (column_at (columns_on starts row) (x - i)) both.1 in
      let near : i ≤ x = true_le i x more.0 in
      let at : n % g.height ≡ row = eqb-true (n % g.height) row both.0 in
      let whole : x - i + i ≡ x = omega (arith, near) in
      let split : (x - i + i) * g.height ≡ (x - i) * g.height + i * g.height = add-mul (x - i) i g.height in
      let parts : x * g.height ≡ (x - i) * g.height + i * g.height = ap (λ (k : ℕ). k * g.height) (sym whole) ∙ split in
      let first : n - i * g.height ≡ (x - i) * g.height + row = omega (arith, at, place, parts) in
      let far : i * g.height ≤ n = omega (arith, place, parts) in
      and_from (covers (starts_number g rows starts) g.height i n) (on_this row (n - i * g.height))
      (and_from (nat_le (i * g.height) n) (starts_number g rows starts (n - i * g.height))
      (le_true (i * g.height) n far)
      (started (n - i * g.height) row (x - i) under (omega (arith, across)) first on more.1))
      (eq-eqb ((n - i * g.height) % g.height) row (ap (λ (k : ℕ). k % g.height) first
      ∙ mod-mul-add (x - i) g.height row under)))
      (λ there.
      let both = and_parts (covers (starts_number g rows starts) g.height i n) (on_this row (n - i * g.height)) there in
      let parts = covers-parts (starts_number g rows starts) g.height i n both.0 in
      let e : ℕ = n - i * g.height in
      let y : ℕ = e / g.height in
      let at : e % g.height ≡ row = eqb-true (e % g.height) row both.1 in
      let first : y * g.height + e % g.height ≡ e = div-add-mod' e g.height in
      let split : (y + i) * g.height ≡ y * g.height + i * g.height = add-mul y i g.height in
      let is : n ≡ (y + i) * g.height + row = omega (arith, first, at, parts.0, split) in
      let column : n / g.height ≡ y + i = ap (λ (k : ℕ). k / g.height) is ∙ div-mul-add (y + i) g.height row under in
      let near : i ≤ x = omega (arith, column) in
      let back : x - i ≡ y = omega (arith, column) in
      let start = begins_start g table axis part rows starts grid some found e parts.1 in
      let own = (and_parts (column_at rows (e % g.height)) (column_at (columns_on starts (e % g.height)) y) start).1 in
      and_from (nat_eq (n % g.height) row) (nat_le i x && column_at (columns_on starts row) (x - i))
      (eq-eqb (n % g.height) row (ap (λ (k : ℕ). k % g.height) is ∙ mod-mul-add (y + i) g.height row under))
      (and_from (nat_le i x) (column_at (columns_on starts row) (x - i)) (le_true i x near)
      (ap (column_at (columns_on starts row)) back ∙ ap (λ (r : ℕ). column_at (columns_on starts r) y) (sym at) ∙ own)))

  here_by : (a : Axis) → axis ≡ a → (row i n : ℕ) → row < g.height → column_at rows row ≡ true → n < length g.cells →
      i < length part →
      cells_behind a g.height row (columns_on starts row) i n
      ≡ (covers (starts_number g rows starts) (step_along a g.height) i n && on_this row
      (n - i * step_along a g.height))
  here_by Down same row i n under on low few = here_down same row i n under on low few
  here_by Right same row i n under on low few = here_right row i n under on low

  fresh : (left : List Bool) (row : ℕ) → column_at left row ≡ true → (n : ℕ) → on_this row n ≡ true →
      done_but left n ≡ false
  fresh left row still n here = let at : n % g.height ≡ row = eqb-true (n % g.height) row here in rw (at, still) refl

  -- one row more ------------------------------------------------------------------------------------------------------

  one_more_by : (left rest : List Bool) (row r : ℕ) → set_columns left ≡ row ∷ set_columns rest → r < SIDE_LIMIT →
      not (column_at rest r) ≡ (not (column_at left r) || nat_eq r row)
  one_more_by left rest row r is low = elim (cases_eq r row) [
    | inl same ↦
        let gone : column_at rest r ≡ false = ap (column_at rest) same ∙ taken_gone left rest row is in
        rw (gone, eq-eqb r row same) (sym (or-true (not (column_at left r))))
    | inr other ↦
        let alike : column_at left r ≡ column_at rest r = taken_out left rest row r is low
        ∙ ap (λ (b : Bool). b || column_at rest r) (ne_eqb r row other) in
        rw (alike, ne_eqb r row other) (sym (or-false (not (column_at rest r))))
  ]

  pub row_more : (left rest : List Bool) (row : ℕ) (now next : Rewritten) → set_columns left ≡ row ∷ set_columns rest →
      column_at rows row ≡ true →
      now ≡ rows_done left → next ≡ cells_changed now table axis row (columns_on starts row) 0 part →
      next ≡ rows_done rest
  row_more left rest row now next is on so made =
      let still = (first_in left row (set_columns rest) is).0 in
      let under : row < g.height = found.below row on in
      let high : g.height ≤ SIDE_LIMIT = grid.rows in
      made
      ∙ ap (λ (r : Rewritten). cells_changed r table axis row (columns_on starts row) 0 part)
      (so ∙ during-start g (starts_number g rows starts) (step_along axis g.height) (part_meaning table part)
      (changes_of part) apart (done_but left) (on_this row))
      ∙ row_written g table axis part row (columns_on starts row) (starts_number g rows starts) apart (done_but left)
      (on_this row) (fresh left row still) (λ i n low few. here_by axis refl row i n under on low few)
      ∙ during-end g (starts_number g rows starts) (step_along axis g.height) (part_meaning table part)
      (changes_of part) apart (done_but left) (on_this row) (done_but rest)
      (λ n low begins. let inside : n % g.height < g.height = mod_below n g.height grid.some_row in
      one_more_by left rest row (n % g.height) is (omega (arith, inside, high)))

  -- no row, and all
  pub rows_none : told g false ≡ rows_done rows
  rows_none =
      after-none g (starts_number g rows starts) (step_along axis g.height) (part_meaning table part)
      (changes_of part) apart (done_but rows)
      (λ n low begins.
      let start = begins_start g table axis part rows starts grid some found n begins in
      let on : column_at rows (n % g.height) ≡ true =
      (and_parts (column_at rows (n % g.height)) (column_at (columns_on starts (n % g.height)) (n / g.height))
      start).0 in
      ap not on)

  pub rows_all : (left : List Bool) → set_columns left ≡ [] → rows_done left
      ≡ after g (starts_number g rows starts) (step_along axis g.height) (part_meaning table part)
      (changes_of part) apart (λ n. true)
  rows_all left none =
      after-agree g (starts_number g rows starts) (step_along axis g.height) (part_meaning table part)
      (changes_of part) apart (done_but left) (λ n. true)
      (λ n low begins. let inside : n % g.height < g.height = mod_below n g.height grid.some_row in
      let high : g.height ≤ SIDE_LIMIT = grid.rows in
      ap not (none_in left (n % g.height) none (omega (arith, inside, high))))

  -- then all places are applied in their order
  pub all_done : (left : List Bool) → set_columns left ≡ [] →
      rows_done left
      ≡ fold (applied ((part_meaning table part ∷ []) ∷ [])) (told g false)
      (combinations (places g (direction_of axis) (part_meaning table part ∷ []) ∷ []))
  all_done left none = rows_all left none ∙ sym (all_applied g table axis part rows starts grid some found alone)

-- a row with a place has room for all of its cells
room_in : (g : Grid) (table : Option (List ℕ)) (axis : Axis) (part : List CompiledCell) (row k x : ℕ) → row < g.height →
    k < length part →
    begins_at g table axis part row x ≡ true → row_at axis row k < g.height
room_in g table Down part row k x under low good = let room = room_by g table part row x good in
    omega (arith, room, low)
room_in g table Right part row k x under low good = under

pub room_on_row : (g now : Grid) (table : Option (List ℕ)) (axis : Axis) (part : List CompiledCell) (rows : List Bool)
    (starts : List (List Bool)) →
    AreStarts g table axis part rows starts → sides_of now ≡ sides_of g → (row k : ℕ) → column_at rows row ≡ true →
    k < length part →
    row_at axis row k < now.height
room_on_row g now table axis part rows starts found sides row k on low =
    let high : now.height ≡ g.height = ap (λ (s : ℕ × ℕ × ℕ). s.1) sides in
    let under : row < g.height = found.below row on in
    rw high (by (set_columns (columns_on starts row)) refl ((found.each row under).some on)) where
      by : (xs : List ℕ) → set_columns (columns_on starts row) ≡ xs → 0 < length xs → row_at axis row k < g.height
      by [] e more = absurd (omega arith)
      by (x ∷ xs) e more =
          let under : row < g.height = found.below row on in
          let first = first_in (columns_on starts row) x xs e in
          room_in g table axis part row k x under low
          (sym ((found.each row under).at x first.1)
          ∙ and_from (column_at rows row) (column_at (columns_on starts row) x) on first.0)
