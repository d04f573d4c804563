-- The next combination in which each row of a rule fits.
use Rattle.std.proofs.Common.{◌≡◌, ◌∙◌, ℕ, suc, zero, ◌<◌, ◌≤◌, ◌&&◌, inl, inr, Bool, true, false, Option, Some, List}
use Rattle.std.proofs.Common.{[], ◌∷◌, ◌++◌, length, map, refl, sym, ap, ap₂, arith, true≢false}
use Rattle.std.specs.Prelude.{slice_get}
use Rattle.std.proofs.lemmas.Bool.{cases_eq}
use Rattle.std.proofs.Math.Bool.{and-false}
use Rattle.std.proofs.lemmas.Option.{none-some, same_Some}
use Rattle.ps_model.specs.board.Grid.{Grid}
use Rattle.ps_model.specs.board.Places.{cells_in, fits_along}
use Rattle.ps_model.specs.board.Attempts.{all_fit}
use Rattle.ps_model.specs.meaning.RuleMeanings.{CellMeaning}
use Rattle.ps_program.specs.declared.cells.CompiledCell.{CompiledCell}
use Rattle.ps_program.specs.declared.rows.CompiledRow.{CompiledRow}
use Rattle.ps_places.specs.Scratch.{Scratch}
use Rattle.ps_places.specs.Lines.{part_meaning}
use Rattle.ps_places.specs.RowPlaces.{all_places, cells_meaning, parts_meaning, place_at, place_fits, places_behind}
use Rattle.ps_places.specs.RowPlaces.{row_meaning}
use Rattle.ps_places.specs.Starts.{HaveSameStarts}
use Rattle.ps_places.specs.Ways.{from_first}
use Rattle.ps_engine.specs.Choices.{Choice, behind, behind_from, choice_of, choices_of, chosen, spread}
use Rattle.ps_engine.specs.Choosing.{AreLeft, AreStarted, FitFrom, HaveStartsOf, LacksPlace, OfEach, rows_meaning}
use Rattle.ps_engine.proofs.Sought.{AreBoth, found_or, from_first-append, front_fits, front_none, front_off}
use Rattle.ps_engine.proofs.Sought.{spread_first, spread_from, spread_none, spread_off, spread_same}

-- the cells of a row, as they are meant
pub cells_in-meant : (table : Option (List ℕ)) (parts : List (List CompiledCell)) →
    cells_in (parts_meaning table parts) ≡ cells_meaning table parts
cells_in-meant table [] = refl
cells_in-meant table (part ∷ parts) = ap (λ (ms : List CellMeaning).
    part_meaning table part ++ ms) (cells_in-meant table parts)

-- a test before others
both_tests : (a b : Bool) → (elim a [ true ↦ b | false ↦ false ]) ≡ (a && b)
both_tests true b = refl
both_tests false b = refl

-- a list of which each element is known
pub same_elements : {X : Type 0} (xs ys : List X) → length xs ≡ length ys →
    ((k : ℕ) → slice_get xs k ≡ slice_get ys k) → xs ≡ ys
same_elements [] [] long same = refl
same_elements [] (y ∷ ys) long same = absurd (omega arith)
same_elements (x ∷ xs) [] long same = absurd (omega arith)
same_elements (x ∷ xs) (y ∷ ys) long same =
    let e : Some x ≡ Some y = same 0 in
    let first : x ≡ y = same_Some x y e in
    ap₂ (λ (z : _) (zs : List _). z ∷ zs) first (same_elements xs ys (omega arith) (λ k. same (suc k)))

-- what is in two equal ones
module _ (g : Grid) (table : Option (List ℕ)) where
  abbrev fits : List CompiledRow → List (List ℕ) → Bool
  fits rows = all_fit g (rows_meaning table rows)

  abbrev row_fits : CompiledRow → List ℕ → Bool
  row_fits row = place_fits g table row.parts

  abbrev choices : List CompiledRow → List Scratch → List Choice
  choices rows scratch = choices_of g.height rows scratch

  -- rows fit where the first and the others do
  pub first_and_others : (row : CompiledRow) (rows : List CompiledRow) →
      AreBoth (row_fits row) (fits rows) (fits (row ∷ rows))
  first_and_others row rows p rest =
      both_tests (fits_along g (cells_in (row_meaning table row)) p) (fits rows rest)
      ∙ ap (λ (ms : List CellMeaning). fits_along g ms p && fits rows rest) (cells_in-meant table row.parts)

  others_behind : {P : CompiledRow → Scratch → Type 0} (n : ℕ) (row : CompiledRow) (rows : List CompiledRow) (row_scratch : Scratch)
      (scratch : List Scratch) →
      OfEach (λ k. suc n ≤ k) (row ∷ rows) (row_scratch ∷ scratch) P → OfEach (λ k. n ≤ k) rows scratch P
  others_behind n row rows row_scratch scratch all = λ k r m low is there. all (suc k) r m (omega arith) is there

  -- the rows fit at the places that are chosen, if each does
  pub chosen_fits : (rows : List CompiledRow) (scratch : List Scratch) → length rows ≤ length scratch →
      FitFrom g table rows scratch 0 → fits rows (chosen (choices rows scratch)) ≡ true
  chosen_fits [] scratch long each = refl
  chosen_fits (row ∷ rows) [] long each = absurd (omega arith)
  chosen_fits (row ∷ rows) (row_scratch ∷ scratch) long each =
      first_and_others row rows (place_at g.height row row_scratch) (chosen (choices rows scratch))
      ∙ ap₂ (λ (a b : Bool). a && b) (each 0 row row_scratch (omega arith) refl refl)
      (chosen_fits rows scratch (omega arith) (λ k r m low is there. each (suc k) r m (omega arith) is there))

  -- and not where one doesn't
  chosen_off : (n : ℕ) (rows : List CompiledRow) (scratch : List Scratch) (row : CompiledRow) (row_scratch : Scratch) →
      slice_get rows n ≡ Some row → slice_get scratch n ≡ Some row_scratch →
      row_fits row (place_at g.height row row_scratch) ≡ false → fits rows (chosen (choices rows scratch)) ≡ false
  chosen_off n [] scratch row row_scratch is there off = absurd (none-some row is)
  chosen_off n (r ∷ rows) [] row row_scratch is there off = absurd (none-some row_scratch there)
  chosen_off zero (r ∷ rows) (m ∷ scratch) row row_scratch is there off =
      let e : r ≡ row = same_Some r row is in
      let d : m ≡ row_scratch = same_Some m row_scratch there in
      first_and_others r rows (place_at g.height r m) (chosen (choices rows scratch))
      ∙ ap (λ (b : Bool). b && fits rows (chosen (choices rows scratch)))
      (ap₂ (λ (x : CompiledRow) (y : Scratch). row_fits x (place_at g.height x y)) e d ∙ off)
  chosen_off (suc n) (r ∷ rows) (m ∷ scratch) row row_scratch is there off =
      first_and_others r rows (place_at g.height r m) (chosen (choices rows scratch))
      ∙ ap (λ (b : Bool). row_fits r (place_at g.height r m) && b) (chosen_off n rows scratch row row_scratch is there off)
      ∙ and-false (row_fits r (place_at g.height r m))

  -- where all fit, so does the first
  first_by : (rows : List CompiledRow) (scratch : List Scratch) (row : CompiledRow) (row_scratch : Scratch) (here : Bool) →
      row_fits row (place_at g.height row row_scratch) ≡ here → slice_get rows 0 ≡ Some row → slice_get scratch 0 ≡ Some row_scratch →
      fits rows (chosen (choices rows scratch)) ≡ true → row_fits row (place_at g.height row row_scratch) ≡ true
  first_by rows scratch row row_scratch true e is there fit = e
  first_by rows scratch row row_scratch false e is there fit =
      let off : fits rows (chosen (choices rows scratch)) ≡ false = chosen_off 0 rows scratch row row_scratch is there e in
      absurd (true≢false (sym fit ∙ off))

  pub first_of_fitting : (rows : List CompiledRow) (scratch : List Scratch) (row : CompiledRow) (row_scratch : Scratch) →
      slice_get rows 0 ≡ Some row → slice_get scratch 0 ≡ Some row_scratch → fits rows (chosen (choices rows scratch)) ≡ true →
      row_fits row (place_at g.height row row_scratch) ≡ true
  first_of_fitting rows scratch row row_scratch = first_by rows scratch row row_scratch (row_fits row (place_at g.height row row_scratch)) refl

  -- where a row doesn't fit at its place, no combination that keeps it can be applied
  pub unfit_passed : (n : ℕ) (rows : List CompiledRow) (scratch : List Scratch) (row : CompiledRow) (row_scratch : Scratch) →
      slice_get rows n ≡ Some row → slice_get scratch n ≡ Some row_scratch →
      row_fits row (place_at g.height row row_scratch) ≡ false →
      from_first (fits rows) (behind (choices rows scratch)) ≡ from_first (fits rows) (behind_from n (choices rows scratch))
  unfit_passed zero rows scratch row row_scratch is there off = refl
  unfit_passed (suc n) [] scratch row row_scratch is there off = refl
  unfit_passed (suc n) (r ∷ rows) [] row row_scratch is there off = refl
  unfit_passed (suc n) (r ∷ rows) (m ∷ scratch) row row_scratch is there off =
      let c : Choice = choice_of g.height r m in
      let others : List Choice = choices rows scratch in
      let both : AreBoth (row_fits r) (fits rows) (fits (r ∷ rows)) = first_and_others r rows in
      from_first-append (fits (r ∷ rows)) (map (λ place. place ∷ chosen others) c.later) (spread c.all (behind others))
      ∙ ap (λ (cs : List (List (List ℕ))). found_or (fits (r ∷ rows)) cs (spread c.all (behind others)))
      (front_off (row_fits r) (fits rows) (fits (r ∷ rows)) both c.later (chosen others)
      (chosen_off n rows scratch row row_scratch is there off))
      ∙ spread_same (row_fits r) (fits rows) (fits (r ∷ rows)) both c.all (behind others) (behind_from n others)
      (unfit_passed n rows scratch row row_scratch is there off)

  -- where a row fits at no place behind its own, the next one is sought for a slower row
  spent_passed : (n : ℕ) (rows : List CompiledRow) (scratch : List Scratch) (row : CompiledRow) (row_scratch : Scratch) →
      slice_get rows n ≡ Some row → slice_get scratch n ≡ Some row_scratch →
      from_first (row_fits row) (places_behind g.height row row_scratch) ≡ [] →
      from_first (fits rows) (behind_from n (choices rows scratch)) ≡ from_first (fits rows)
      (behind_from (suc n) (choices rows scratch))
  spent_passed zero [] scratch row row_scratch is there none = refl
  spent_passed (suc n) [] scratch row row_scratch is there none = refl
  spent_passed zero (r ∷ rows) [] row row_scratch is there none = refl
  spent_passed (suc n) (r ∷ rows) [] row row_scratch is there none = refl
  spent_passed zero (r ∷ rows) (m ∷ scratch) row row_scratch is there none =
      let e : r ≡ row = same_Some r row is in
      let d : m ≡ row_scratch = same_Some m row_scratch there in
      let c : Choice = choice_of g.height r m in
      let others : List Choice = choices rows scratch in
      let here : from_first (row_fits r) c.later ≡ [] =
      ap₂ (λ (x : CompiledRow) (y : Scratch). from_first (row_fits x) (places_behind g.height x y)) e d ∙ none in
      from_first-append (fits (r ∷ rows)) (map (λ place. place ∷ chosen others) c.later) (spread c.all (behind others))
      ∙ ap (λ (cs : List (List (List ℕ))). found_or (fits (r ∷ rows)) cs (spread c.all (behind others)))
      (front_none (row_fits r) (fits rows) (fits (r ∷ rows)) (first_and_others r rows) c.later (chosen others) here)
  spent_passed (suc n) (r ∷ rows) (m ∷ scratch) row row_scratch is there none =
      let others : List Choice = choices rows scratch in
      spread_same (row_fits r) (fits rows) (fits (r ∷ rows)) (first_and_others r rows) (all_places g.height r m)
      (behind_from n others) (behind_from (suc n) others)
      (spent_passed n rows scratch row row_scratch is there none)

  pub spent_next : (n m : ℕ) (rows : List CompiledRow) (scratch : List Scratch) (row : CompiledRow) (row_scratch : Scratch) →
      slice_get rows n ≡ Some row → slice_get scratch n ≡ Some row_scratch →
      from_first (row_fits row) (places_behind g.height row row_scratch) ≡ [] → m ≡ suc n →
      from_first (fits rows) (behind_from n (choices rows scratch)) ≡ from_first (fits rows)
      (behind_from m (choices rows scratch))
  spent_next n m rows scratch row row_scratch is there none next =
      spent_passed n rows scratch row row_scratch is there none
      ∙ ap (λ (k : ℕ). from_first (fits rows) (behind_from k (choices rows scratch))) (sym next)

  -- there is no row any more
  pub no_row_left : (n : ℕ) (rows : List CompiledRow) (scratch : List Scratch) → length rows ≤ n →
      behind_from n (choices rows scratch) ≡ []
  no_row_left zero [] scratch high = refl
  no_row_left (suc n) [] scratch high = refl
  no_row_left zero (row ∷ rows) scratch high = absurd (omega arith)
  no_row_left (suc n) (row ∷ rows) [] high = refl
  no_row_left (suc n) (row ∷ rows) (row_scratch ∷ scratch) high =
      ap (spread (all_places g.height row row_scratch)) (no_row_left n rows scratch (omega arith))

  -- the faster rows have no place at which they all fit
  pub none_found : (n : ℕ) (rows : List CompiledRow) (scratch : List Scratch) → LacksPlace g table rows scratch n →
      from_first (fits rows) (behind_from n (choices rows scratch)) ≡ []
  none_found n rows scratch lack = at lack.number n rows scratch lack.row lack.row_scratch lack.low lack.row_is lack.room_is
      lack.none where
        at : (k n : ℕ) (rows : List CompiledRow) (scratch : List Scratch) (row : CompiledRow) (row_scratch : Scratch) → k < n →
            slice_get rows k ≡ Some row → slice_get scratch k ≡ Some row_scratch →
            from_first (row_fits row) (all_places g.height row row_scratch) ≡ [] →
            from_first (fits rows) (behind_from n (choices rows scratch)) ≡ []
        at k zero rows scratch row row_scratch low is there none = absurd (omega arith)
        at k (suc n) [] scratch row row_scratch low is there none = refl
        at k (suc n) (r ∷ rows) [] row row_scratch low is there none = refl
        at zero (suc n) (r ∷ rows) (m ∷ scratch) row row_scratch low is there none =
            let e : r ≡ row = same_Some r row is in
            let d : m ≡ row_scratch = same_Some m row_scratch there in
            spread_none (row_fits r) (fits rows) (fits (r ∷ rows)) (first_and_others r rows) (all_places g.height r m)
            (behind_from n (choices rows scratch))
            (ap₂ (λ (x : CompiledRow) (y : Scratch). from_first (row_fits x) (all_places g.height x y)) e d ∙ none)
        at (suc k) (suc n) (r ∷ rows) (m ∷ scratch) row row_scratch low is there none =
            spread_off (row_fits r) (fits rows) (fits (r ∷ rows)) (first_and_others r rows) (all_places g.height r m)
            (behind_from n (choices rows scratch))
            (at k n rows scratch row row_scratch (omega arith) is there none)

  -- the same starts, the same places
  pub same_places : (row : CompiledRow) (before after : Scratch) → HaveSameStarts before after →
      all_places g.height row after ≡ all_places g.height row before
  same_places row before after same =
      let lines : after.lines ≡ before.lines = same.lines in
      let starts : after.starts ≡ before.starts = same.starts in
      rw (lines, starts) refl

  -- the next combination
  pub goes_on : (n : ℕ) (rows : List CompiledRow) (old new : List Scratch) (row : CompiledRow) (before after : Scratch) →
      length rows ≤ length old → length new ≡ length old →
      slice_get rows n ≡ Some row → slice_get old n ≡ Some before → slice_get new n ≡ Some after →
      from_first (row_fits row) (places_behind g.height row before) ≡ place_at g.height row after ∷ places_behind
      g.height row after →
      AreStarted g table rows new n → AreLeft old new (suc n) → HaveStartsOf old new →
      FitFrom g table rows old (suc n) →
      from_first (fits rows) (behind_from n (choices rows old)) ≡ chosen (choices rows new) ∷ behind (choices rows new)
  goes_on n [] old new row before after long even is was now next started left same slower = absurd (none-some row is)
  goes_on n (r ∷ rows) [] new row before after long even is was now next started left same slower = absurd (omega arith)
  goes_on n (r ∷ rows) (m ∷ old) [] row before after long even is was now next started left same slower =
      absurd (omega arith)
  goes_on zero (r ∷ rows) (m ∷ old) (o ∷ new) row before after long even is was now next started left same slower =
      let e : r ≡ row = same_Some r row is in
      let d : m ≡ before = same_Some m before was in
      let f : o ≡ after = same_Some o after now in
      let rest : new ≡ old = same_elements new old (omega arith) (λ k. left (suc k) (omega arith)) in
      let others : List Choice = choices rows old in
      let c : Choice = choice_of g.height r m in
      let both : AreBoth (row_fits r) (fits rows) (fits (r ∷ rows)) = first_and_others r rows in
      let found : from_first (row_fits r) c.later ≡ place_at g.height r o ∷ places_behind g.height r o =
      rw (e, d, f) next in
      let stay : fits rows (chosen others) ≡ true =
      chosen_fits rows old (omega arith) (λ k x y low there row_scratch. slower (suc k) x y (omega arith) there row_scratch) in
      from_first-append (fits (r ∷ rows)) (map (λ place. place ∷ chosen others) c.later) (spread c.all (behind others))
      ∙ ap (λ (cs : List (List (List ℕ))). found_or (fits (r ∷ rows)) cs (spread c.all (behind others)))
      (front_fits (row_fits r) (fits rows) (fits (r ∷ rows)) both c.later (chosen others) stay
      ∙ ap (map (λ place. place ∷ chosen others)) found)
      ∙ ap (λ (ps : List (List ℕ)). map (λ place.
      place ∷ chosen others) (place_at g.height r o ∷ places_behind g.height r o) ++ spread ps (behind others))
      (sym (same_places r m o (same.each 0 m o refl refl)))
      ∙ ap (λ (ms : List Scratch). chosen (choices (r ∷ rows) (o ∷ ms)) ∷ behind (choices (r ∷ rows) (o ∷ ms))) (sym rest)
  goes_on (suc n) (r ∷ rows) (m ∷ old) (o ∷ new) row before after long even is was now next started left same slower =
      let others : List Choice = choices rows new in
      let both : AreBoth (row_fits r) (fits rows) (fits (r ∷ rows)) = first_and_others r rows in
      let alike : all_places g.height r o ≡ all_places g.height r m = same_places r m o (same.each 0 m o refl refl) in
      let again = started 0 r o (omega arith) refl refl in
      let first : from_first (row_fits r) (all_places g.height r m) ≡ place_at g.height r o ∷ places_behind g.height r
      o = ap (from_first (row_fits r)) (sym alike) ∙ again.found in
      spread_first (row_fits r) (fits rows) (fits (r ∷ rows)) both (place_at g.height r o) (places_behind g.height r o)
      (all_places g.height r m) (behind_from n (choices rows old)) first
      ∙ ap (spread_from (row_fits r) (fits rows) (fits (r ∷ rows)) both
      (place_at g.height r o ∷ places_behind g.height r o) (all_places g.height r m))
      (goes_on n rows old new row before after (omega arith) (omega arith) is was now next
      (λ k x y low there row_scratch. started (suc k) x y (omega arith) there row_scratch)
      (λ k low. left (suc k) (omega arith))
      (record { long = omega arith; each = λ k x y there row_scratch. same.each (suc k) x y there row_scratch })
      (λ k x y low there row_scratch. slower (suc k) x y (omega arith) there row_scratch))
      ∙ ap (λ (ps : List (List ℕ)). map (λ place.
      place ∷ chosen others) (place_at g.height r o ∷ places_behind g.height r o) ++ spread ps (behind others))
      (sym alike)

  -- one row more fits at its place
  pub fit_more : (n m : ℕ) (rows : List CompiledRow) (scratch : List Scratch) (row : CompiledRow) (row_scratch : Scratch) →
      slice_get rows n ≡ Some row → slice_get scratch n ≡ Some row_scratch →
      row_fits row (place_at g.height row row_scratch) ≡ true → m ≡ suc n → FitFrom g table rows scratch m →
      FitFrom g table rows scratch n
  fit_more n m rows scratch row row_scratch is there good next more k r o low own here = elim (cases_eq k n) [
    | inl same ↦
        let e : r ≡ row = same_Some _ _ (sym own ∙ ap (slice_get rows) same ∙ is) in
        let d : o ≡ row_scratch = same_Some _ _ (sym here ∙ ap (slice_get scratch) same ∙ there) in
        ap₂ (λ (x : CompiledRow) (y : Scratch). row_fits x (place_at g.height x y)) e d ∙ good
    | inr other ↦ more k r o (omega (arith, low, other, next)) own here
  ]
