-- The places of a part that goes down from one row of the board: of some columns those in which it fits are written
-- together, and that comes to each of them in its turn.
use Rattle.std.proofs.Common.{◌≡◌, ◌≢◌, ◌∙◌, ℕ, zero, suc, ◌+◌, ◌-◌, ◌*◌, ◌/◌, ◌%◌, ◌<◌, ◌≤◌, ◌&&◌, ◌||◌, inl, inr}
use Rattle.std.proofs.Common.{Bool, true, false, Option, List, [], length, fold, refl, sym, ap, ap₂, arith}
use Rattle.std.specs.Prelude.{if◌then◌else◌, nat_eq, nat_le, nat_lt, slice_get}
use Rattle.std.specs.List.{range_with_len}
use Rattle.std.proofs.Math.Bool.{and-false, or-false}
use Rattle.std.proofs.Math.Nat.{add-mul, mul-le-mul}
use Rattle.std.proofs.lemmas.Bool.{and_parts, and_from, cases_Bool, cases_eq, cases_lt, eq-eqb, eqb-true, le-ltb}
use Rattle.std.proofs.lemmas.Bool.{lt-ltb, ne_eqb}
use Rattle.std.proofs.lemmas.Bool.Decides.{nat_tests}
use Rattle.std.proofs.lemmas.List.{length-map}
use Rattle.std.proofs.lemmas.Nat.{div-add-mod', div-mul-add, div_below, mod-mul-add}
use Rattle.ps_model.specs.declared.limits.TheConstants.{SIDE_LIMIT}
use Rattle.ps_model.specs.board.Grid.{Grid, IsGrid, cell_at}
use Rattle.ps_model.specs.board.Places.{fits_along}
use Rattle.ps_model.specs.board.Attempts.{Rewritten}
use Rattle.ps_model.specs.meaning.RuleMeanings.{CellMeaning}
use Rattle.ps_laws.proofs.common.Truths.{same_tests}
use Rattle.ps_board.specs.ColumnSets.{both_columns, column_at, set_columns}
use Rattle.ps_board.proofs.ColumnLaws.{column_at-where, none_in}
use Rattle.ps_match.specs.Together.{is_on_row}
use Rattle.ps_match.proofs.RowWritten.{cell_known, lt_next, told}
use Rattle.ps_program.specs.declared.cells.CompiledCell.{CompiledCell}
use Rattle.ps_program.specs.declared.rows.Axis.TheVariants.{Down}
use Rattle.ps_places.specs.InTurn.{applied_down, row_in_turn, turn_down}
use Rattle.ps_places.specs.Lines.{cell_meaning, cells_from, part_fits, part_meaning}
use Rattle.ps_places.specs.Starts.{AreWhere, begins_down}
use Rattle.ps_places.specs.WrittenTogether.{cells_changed}
use Rattle.ps_places.proofs.Apart.{applied-is, applied_by}
use Rattle.ps_places.proofs.InGroups.{AreAlone, after, after-agree, after-none, by-none, cell_done, covered, covers}
use Rattle.ps_places.proofs.InGroups.{covers-parts}
use Rattle.ps_places.proofs.InGroups.{during-end, during-start}
use Rattle.ps_places.proofs.PlacesWritten.{place_done}
use Rattle.ps_places.proofs.RowOfPlaces.{row_written}
use Rattle.ps_places.proofs.StartNumbers.{cells_idle, changes_of}
use Rattle.ps_places.proofs.Untouched.{cells-from, fits-agree}
use Rattle.ps_places.proofs.WrittenAs.{as-same}

-- of some columns, those in which a part begins
pub among : (g : Grid) (table : Option (List ℕ)) (part : List CompiledCell) (row : ℕ)
    (found columns fitting : List Bool) → AreWhere (begins_down g table part row) found →
    fitting ≡ both_columns found columns → (x : ℕ) → x < SIDE_LIMIT →
    column_at fitting x ≡ (begins_down g table part row x && column_at columns x)
among g table part row found columns fitting begun is x low =
    ap (λ (cs : List Bool). column_at cs x) is
    ∙ column_at-where (λ y. column_at found y && column_at columns y) x low
    ∙ ap (λ (b : Bool). b && column_at columns x) (begun.at x low)

module _ (g : Grid) (table : Option (List ℕ)) (part : List CompiledCell) (row : ℕ) (columns fitting : List Bool)
    (grid : IsGrid g) (some : 0 < length part) (room : row + length part ≤ g.height)
    (fit : (x : ℕ) → x < SIDE_LIMIT →
    column_at fitting x ≡ (begins_down g table part row x && column_at columns x)) where
  abbrev all : List CellMeaning
  all = part_meaning table part

  -- where the places that fit begin
  abbrev begins : ℕ → Bool
  begins n = is_on_row g.height row fitting n

  size : length all ≡ length part
  size = length-map part (cell_meaning table)

  on_row : (n : ℕ) → begins n ≡ true → n % g.height ≡ row
  on_row n on = eqb-true (n % g.height) row (and_parts (nat_eq (n % g.height) row)
      (column_at fitting (n / g.height)) on).0

  in_column : (n : ℕ) → begins n ≡ true → column_at fitting (n / g.height) ≡ true
  in_column n on = (and_parts (nat_eq (n % g.height) row) (column_at fitting (n / g.height)) on).1

  starts_there : (x n : ℕ) → n ≡ x * g.height + row → column_at fitting x ≡ true → begins n ≡ true
  starts_there x n is on =
      let under : row < g.height = omega (arith, room, some) in
      and_from (nat_eq (n % g.height) row) (column_at fitting (n / g.height))
      (eq-eqb (n % g.height) row (ap (λ (k : ℕ). k % g.height) is ∙ mod-mul-add x g.height row under))
      (ap (λ (k : ℕ). column_at fitting (k / g.height)) is
      ∙ ap (column_at fitting) (div-mul-add x g.height row under) ∙ on)

  -- no two of them share a cell
  pub apart : AreAlone begins 1 (part_meaning table part) (changes_of part)
  apart =
      record {
        at = λ e distance k more low on there.
            let x : ℕ = e / g.height in
            let place : x * g.height + e % g.height ≡ e = div-add-mod' e g.height in
            let under : row + distance < g.height = omega (arith, room, low, size) in
            let next : e + distance * 1 ≡ x * g.height + (row + distance) = omega (arith, place, on_row e on) in
            let same : row + distance ≡ row =
            sym (ap (λ (n : ℕ). n % g.height) next ∙ mod-mul-add x g.height (row + distance) under)
            ∙ on_row (e + distance * 1) there in
            absurd (omega (arith, same, more));
      }

  -- written together --------------------------------------------------------------------------------------------------

  abbrev pub done_of : (ℕ → Bool) → Rewritten
  done_of done = after g begins 1 (part_meaning table part) (changes_of part) apart done

  covered_here : (i n : ℕ) → n < length g.cells → i < length part →
      is_on_row g.height (row + i) fitting n ≡ (covers begins 1 i n && true)
  covered_here i n low few = same_tests _ _
      (λ here.
      let both = and_parts (nat_eq (n % g.height) (row + i)) (column_at fitting (n / g.height)) here in
      let x : ℕ = n / g.height in
      let at : n % g.height ≡ row + i = eqb-true (n % g.height) (row + i) both.0 in
      let place : x * g.height + n % g.height ≡ n = div-add-mod' n g.height in
      let first : n - i * 1 ≡ x * g.height + row = omega (arith, at, place) in
      let far : i * 1 ≤ n = omega (arith, at, place) in
      let within : nat_le (i * 1) n ≡ true = grind (arith, nat_tests, far) in
      and_from (covers begins 1 i n) true
      (and_from (nat_le (i * 1) n) (begins (n - i * 1)) within (starts_there x (n - i * 1) first both.1)) refl)
      (λ there.
      let both = and_parts (covers begins 1 i n) true there in
      let parts = covers-parts begins 1 i n both.0 in
      let e : ℕ = n - i * 1 in
      let x : ℕ = e / g.height in
      let place : x * g.height + e % g.height ≡ e = div-add-mod' e g.height in
      let is : n ≡ x * g.height + (row + i) = omega (arith, place, on_row e parts.1, parts.0) in
      let below : row + i < g.height = omega (arith, room, few) in
      and_from (nat_eq (n % g.height) (row + i)) (column_at fitting (n / g.height))
      (eq-eqb (n % g.height) (row + i) (ap (λ (k : ℕ). k % g.height) is ∙ mod-mul-add x g.height (row + i) below))
      (ap (λ (k : ℕ). column_at fitting (k / g.height)) is
      ∙ ap (column_at fitting) (div-mul-add x g.height (row + i) below) ∙ in_column e parts.1))

  together : cells_changed (told g false) table Down row fitting 0 part ≡ done_of (λ n. true)
  together =
      ap (λ (r : Rewritten). cells_changed r table Down row fitting 0 part)
      (after-none g begins 1 (part_meaning table part) (changes_of part) apart (λ n. false) (λ e low on. refl)
      ∙ during-start g begins 1 (part_meaning table part) (changes_of part) apart (λ n. false) (λ n. true))
      ∙ row_written g table Down part row fitting begins apart (λ n. false) (λ n. true) (λ n on. refl) covered_here
      ∙ during-end g begins 1 (part_meaning table part) (changes_of part) apart (λ n. false) (λ n. true) (λ n. true)
      (λ e low on. refl)

  -- one after the other -----------------------------------------------------------------------------------------------

  -- those in the columns before one are done
  abbrev before : ℕ → ℕ → Bool
  before x n = nat_lt (n / g.height) x

  -- all that lies behind them is as it was
  not_yet : (x k n : ℕ) → x * g.height ≤ n → k < length all →
      covered g begins 1 (part_meaning table part) (changes_of part) apart (before x) k n ≡ false
  not_yet x k n far few = elim (cases_Bool (covers begins 1 k n)) [
    | inl here ↦
        let parts = covers-parts begins 1 k n here in
        let e : ℕ = n - k * 1 in
        let y : ℕ = e / g.height in
        let place : y * g.height + e % g.height ≡ e = div-add-mod' e g.height in
        let at : e % g.height ≡ row = on_row e parts.1 in
        let end : n < (y + 1) * g.height =
        let split : (y + 1) * g.height ≡ y * g.height + 1 * g.height = add-mul y 1 g.height in
        omega (arith, split, place, at, parts.0, room, few, size) in
        let behind : x ≤ y = elim (cases_lt y x) [
          | inl less ↦
              let one : y + 1 ≤ x = omega (arith, less) in
              let same : g.height ≤ g.height = omega arith in
              let most : (y + 1) * g.height ≤ x * g.height = mul-le-mul one same in
              absurd (omega (arith, most, end, far))
          | inr more ↦ more
        ] in
        ap (λ (b : Bool). (changes_of part k && covers begins 1 k n) && b) (le-ltb y x behind)
        ∙ and-false (changes_of part k && covers begins 1 k n)
    | inr off ↦ rw (off, and-false) refl
  ]

  as_before : (x n : ℕ) → x * g.height ≤ n → slice_get (done_of (before x)).grid.cells n ≡ slice_get g.cells n
  as_before x n far =
      as-same g (cell_done g begins 1 (part_meaning table part) (changes_of part) apart (before x)) n
      (λ low. by-none (covered g begins 1 (part_meaning table part) (changes_of part) apart (before x)) 0
      (part_meaning table part) n (cell_at g n)
      (λ k least most. not_yet x k n far (omega (arith, most))))

  abbrev place : ℕ → List ℕ
  place x = cells_from 1 (x * g.height + row) (length all)

  -- whether a place fits
  fits_is : (x : ℕ) → x < g.width → begins_down g table part row x ≡ fits_along g all (place x)
  fits_is x low =
      let within : nat_le (row + length part) g.height ≡ true = grind (arith, nat_tests, room) in
      ap₂ (λ (a b : Bool). a && (b && part_fits g table Down x part row)) (lt-ltb x g.width low) within
      ∙ ap (λ (count : ℕ). fits_along g all (cells_from 1 (x * g.height + row) count)) (sym size)

  left_out : (x : ℕ) → column_at fitting x ≡ false → done_of (before x) ≡ done_of (before (x + 1))
  left_out x off =
      after-agree g begins 1 (part_meaning table part) (changes_of part) apart (before x) (before (x + 1))
      (λ e low on. sym (lt_next (e / g.height) x
      (λ same. let clash : true ≡ false = sym (in_column e on) ∙ ap (column_at fitting) same ∙ off in absurd (cc))))

  one_more : (x n e : ℕ) → n ≡ x * g.height + row → begins e ≡ true → before (x + 1) e ≡ (before x e || nat_eq e n)
  one_more x n e is on =
      let under : row < g.height = omega (arith, room, some) in
      let quotient : n / g.height ≡ x = ap (λ (k : ℕ). k / g.height) is ∙ div-mul-add x g.height row under in
      let remainder : n % g.height ≡ row = ap (λ (k : ℕ). k % g.height) is ∙ mod-mul-add x g.height row under in
      elim (cases_eq (e / g.height) x) [
        | inl same ↦
            let here : e ≡ n = cell_known g.height e n (on_row e on ∙ sym remainder) (same ∙ sym quotient) in
            let less : x < x + 1 = omega arith in
            let least : x ≤ x = omega arith in
            rw (same, lt-ltb x (x + 1) less, le-ltb x x least, eq-eqb e n here) refl
        | inr other ↦
            let apart : e ≢ n = λ here. other (ap (λ (k : ℕ). k / g.height) here ∙ quotient) in
            lt_next (e / g.height) x other
            ∙ sym (ap (λ (b : Bool). before x e || b) (ne_eqb e n apart) ∙ or-false (before x e))
      ]

  one_column : (x : ℕ) → x < g.width →
      turn_down g.height all row columns (done_of (before x)) x ≡ done_of (before (x + 1))
  one_column x low = by (column_at columns x) (begins_down g table part row x) refl refl where
    few : x < SIDE_LIMIT
    few = let wide : g.width ≤ SIDE_LIMIT = grid.columns in omega (arith, wide, low)

    first : ℕ
    first = x * g.height + row

    kept : (a b : Bool) → column_at columns x ≡ a → begins_down g table part row x ≡ b →
        column_at fitting x ≡ (b && a)
    kept a b e d = fit x few ∙ ap₂ (λ (p q : Bool). p && q) d e

    turn : (a : Bool) → column_at columns x ≡ a →
        turn_down g.height all row columns (done_of (before x)) x
        ≡ (if a then applied_down g.height all row (done_of (before x)) x else done_of (before x))
    turn a e =
        ap (λ (b : Bool). if b then applied_down g.height all row (done_of (before x)) x else done_of (before x)) e

    by : (a b : Bool) → column_at columns x ≡ a → begins_down g table part row x ≡ b →
        turn_down g.height all row columns (done_of (before x)) x ≡ done_of (before (x + 1))
    by false b e d = turn false e ∙ left_out x (kept false b e d ∙ and-false b)
    by true false e d =
        turn true e
        ∙ applied-is all (done_of (before x)) (place x)
        ∙ applied_by all (done_of (before x)) (place x) false
        (fits-agree g (done_of (before x)).grid all (place x) (x * g.height) (λ n far. as_before x n far)
        (cells-from first 1 (length all) (x * g.height) (omega arith))
        ∙ sym (fits_is x low) ∙ d)
        ∙ left_out x (kept true false e d)
    by true true e d =
        let under : row < g.height = omega (arith, room, some) in
        let quotient : first / g.height ≡ x = div-mul-add x g.height row under in
        let least : x ≤ first / g.height = omega (arith, quotient) in
        turn true e
        ∙ place_done g 1 begins all (changes_of part) apart (cells_idle table part) (before x) (before (x + 1)) first
        (starts_there x first refl (kept true true e d)) (le-ltb (first / g.height) x least)
        (sym (fits_is x low) ∙ d)
        (λ n below on. one_more x first n refl on)

  columns_from : (a n : ℕ) → a + n ≤ g.width →
      fold (turn_down g.height all row columns) (done_of (before a)) (range_with_len a n) ≡ done_of (before (a + n))
  columns_from a zero within = let none : a + 0 ≡ a = omega arith in
      ap (λ (k : ℕ). done_of (before k)) (sym none)
  columns_from a (suc n) within =
      let next : a + 1 + n ≡ a + suc n = omega arith in
      ap (λ (r : Rewritten). fold (turn_down g.height all row columns) r (range_with_len (a + 1) n))
      (one_column a (omega arith))
      ∙ columns_from (a + 1) n (omega arith) ∙ ap (λ (k : ℕ). done_of (before k)) next

  in_turn : row_in_turn g.width g.height all row columns (told g false) ≡ done_of (λ n. true)
  in_turn =
      let whole : 0 + g.width ≡ g.width = omega arith in
      ap (λ (r : Rewritten). row_in_turn g.width g.height all row columns r)
      (after-none g begins 1 (part_meaning table part) (changes_of part) apart (before 0)
      (λ e low on. let least : 0 ≤ e / g.height = omega arith in le-ltb (e / g.height) 0 least))
      ∙ columns_from 0 g.width (omega arith) ∙ ap (λ (k : ℕ). done_of (before k)) whole
      ∙ after-agree g begins 1 (part_meaning table part) (changes_of part) apart (before g.width) (λ n. true)
      (λ e low on. lt-ltb (e / g.height) g.width
      (div_below e g.height g.width grid.some_row (rw (← grid.cells) low)))

  pub row_together : cells_changed (told g false) table Down row fitting 0 part
      ≡ row_in_turn g.width g.height (part_meaning table part) row columns (told g false)
  row_together = together ∙ sym in_turn

  -- and where it fits in no column, nothing is written
  pub row_without : set_columns fitting ≡ [] →
      told g false ≡ row_in_turn g.width g.height (part_meaning table part) row columns (told g false)
  row_without none =
      after-none g begins 1 (part_meaning table part) (changes_of part) apart (λ n. true)
      (λ e low on.
      let across : e / g.height < g.width = div_below e g.height g.width grid.some_row (rw (← grid.cells) low) in
      let wide : g.width ≤ SIDE_LIMIT = grid.columns in
      sym (in_column e on) ∙ none_in fitting (e / g.height) none (omega (arith, across, wide)))
      ∙ sym in_turn
