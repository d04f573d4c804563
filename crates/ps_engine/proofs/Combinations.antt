-- The combinations of a rule's places, where the first place of each row is chosen.
use Rattle.std.proofs.Common.{◌≡◌, ◌∙◌, ℕ, suc, zero, ◌<◌, ◌≤◌, inl, inr, Bool, true, false, Option, Some, List, []}
use Rattle.std.proofs.Common.{◌∷◌, ◌++◌, length, map, filter, get_or, refl, sym, ap, ap₂, arith}
use Rattle.std.specs.Prelude.{All, slice_get, slice_set}
use Rattle.std.specs.List.{flat_map}
use Rattle.std.proofs.lemmas.Bool.{cases_eq}
use Rattle.std.proofs.lemmas.List.{length-map}
use Rattle.std.proofs.lemmas.Option.{slice_get-get_or, same_Some}
use Rattle.ps_model.specs.declared.pieces.Direction.{Direction}
use Rattle.ps_model.specs.board.Grid.{Grid}
use Rattle.ps_model.specs.board.Places.{cells_in, fits_along, places, search_order, stretches}
use Rattle.ps_model.specs.board.Attempts.{all_fit, combinations}
use Rattle.ps_model.specs.meaning.RuleMeanings.{CellMeaning}
use Rattle.ps_program.specs.declared.rows.Axis.{Axis}
use Rattle.ps_program.specs.declared.rows.CompiledRow.{CompiledRow}
use Rattle.ps_program.specs.Axes.{LiesAlong, direction_of}
use Rattle.ps_places.specs.Scratch.{Scratch}
use Rattle.ps_places.specs.RowPlaces.{all_places, place_at, place_fits, places_behind, row_meaning}
use Rattle.ps_places.specs.Starts.{HasLinesOf, HaveSameStarts}
use Rattle.ps_places.specs.Ways.{from_first}
use Rattle.ps_engine.specs.Choices.{Choice, behind, choices_of, chosen, spread}
use Rattle.ps_engine.specs.Choosing.{IsChosenOf, IsPlaced, OfEach, row_places, rows_meaning}
use Rattle.ps_engine.proofs.Choosing.{cells_in-meant, chosen_fits, same_places}
use Rattle.ps_engine.proofs.ScratchChanged.{get_other, get_same}
use Rattle.ps_engine.proofs.Sought.{first_is, found_or, from_first-append, from_first-yes}

-- of elements that are all of a kind the first is of the kind ---------------------------------------------------------

module _ {X : Type 0} (kind : X → Bool) where
  kept_by : (x : X) (xs : List X) (b : Bool) → kind x ≡ b → from_first kind (filter kind xs) ≡ filter kind xs →
      from_first kind (filter kind (x ∷ xs)) ≡ filter kind (x ∷ xs)
  kept_by x xs true e rest = rw e (from_first-yes kind x (filter kind xs) e)
  kept_by x xs false e rest = rw e rest

  kept_all : (xs : List X) → from_first kind (filter kind xs) ≡ filter kind xs
  kept_all [] = refl
  kept_all (x ∷ xs) = kept_by x xs (kind x) refl (kept_all xs)

  joined : (xs ys : List X) → from_first kind xs ≡ xs → from_first kind ys ≡ ys → from_first kind (xs ++ ys) ≡ xs ++ ys
  joined xs ys first others = from_first-append kind xs ys ∙ ap (λ (zs : List X). found_or kind zs ys) first
      ∙ same xs where
        same : (zs : List X) → found_or kind zs ys ≡ zs ++ ys
        same [] = others
        same (z ∷ zs) = refl

  pub all_of_kind : {Y : Type 0} (f : Y → List X) (ys : List Y) →
      from_first kind (flat_map (λ y. filter kind (f y)) ys) ≡ flat_map (λ y. filter kind (f y)) ys
  all_of_kind f [] = refl
  all_of_kind f (y ∷ ys) = joined (filter kind (f y)) (flat_map (λ z. filter kind (f z)) ys) (kept_all (f y))
      (all_of_kind f ys)

-- where a list has no place, there is no combination
no_spread : (rests : List (List (List ℕ))) → spread [] rests ≡ []
no_spread [] = refl
no_spread (rest ∷ rests) = no_spread rests

pub no_combination : (places : List (List (List ℕ))) (i : ℕ) (d : List (List ℕ)) → i < length places →
    get_or places i d ≡ [] → combinations places ≡ []
no_combination [] i d h e = absurd (omega arith)
no_combination (places ∷ others) zero d h e = rw e (no_spread (combinations others))
no_combination (places ∷ others) (suc i) d h e = ap (spread places) (no_combination others i d (omega arith) e)

pub get-shown_twice : {P X Y : Type 0} (f : P → X) (h : X → Y) (xs : List P) (k : ℕ) (x : P) (d : Y) → k < length xs →
    x ≡ get_or xs k x → get_or (map h (map f xs)) k d ≡ h (f x)
get-shown_twice f h [] k x d low e = absurd (omega arith)
get-shown_twice f h (y ∷ xs) zero x d low e = ap (λ z. h (f z)) (sym e)
get-shown_twice f h (y ∷ xs) (suc k) x d low e = get-shown_twice f h xs k x d (omega arith) e

module _ (g : Grid) (table : Option (List ℕ)) where
  -- the places of a row at the start all fit
  pub all_fit_there : (direction : Direction) (row : CompiledRow) →
      from_first (place_fits g table row.parts) (places g direction (row_meaning table row)) ≡ places g direction
      (row_meaning table row)
  all_fit_there direction row =
      ap (λ (ms : List CellMeaning). from_first (fits_along g ms) (places g direction (row_meaning table row)))
      (sym (cells_in-meant table row.parts))
      ∙ all_of_kind (fits_along g (cells_in (row_meaning table row)))
      (stretches g direction (map length (row_meaning table row))) (search_order g direction)

  -- a row's places are found, and the first is chosen
  pub record HasFirst (row : CompiledRow) (row_scratch : Scratch) : Type 0 where
    pub places : places g (direction_of row.axis) (row_meaning table row) ≡ all_places g.height row row_scratch
    pub first : all_places g.height row row_scratch ≡ place_at g.height row row_scratch ∷ places_behind g.height row row_scratch
    pub fits : place_fits g table row.parts (place_at g.height row row_scratch) ≡ true
    pub lines : HasLinesOf g row row_scratch
    pub place : IsPlaced g row row_scratch

  -- the combination of the first places, and those behind it
  pub all_combinations : (axis : Axis) (rows : List CompiledRow) (scratch : List Scratch) → All (LiesAlong axis) rows →
      length rows ≤ length scratch → OfEach (λ k. 0 ≤ k) rows scratch HasFirst →
      combinations (map (places g (direction_of axis)) (rows_meaning table rows)) ≡ chosen
      (choices_of g.height rows scratch) ∷ behind (choices_of g.height rows scratch)
  all_combinations axis [] scratch along long each = refl
  all_combinations axis (row ∷ rows) [] along long each = absurd (omega arith)
  all_combinations axis (row ∷ rows) (row_scratch ∷ scratch) along long each =
      let here = each 0 row row_scratch (omega arith) refl refl in
      let others : List Choice = choices_of g.height rows scratch in
      let lies : row.axis ≡ axis = along 0 row (omega arith) in
      let own : places g (direction_of axis) (row_meaning table row) ≡ place_at g.height row row_scratch ∷ places_behind
      g.height row row_scratch =
      ap (λ (a : Axis). places g (direction_of a) (row_meaning table row)) (sym lies) ∙ here.places ∙ here.first in
      ap₂ spread own (all_combinations axis rows scratch (λ k d low.
      along (suc k) d (omega (arith, low))) (omega arith) (λ k r o low is there.
      each (suc k) r o (omega arith) is there))
      ∙ ap (λ (ps : List (List ℕ)). map (λ place.
      place ∷ chosen others) (place_at g.height row row_scratch ∷ places_behind g.height row row_scratch) ++ spread ps
      (behind others)) (sym here.first)

  -- a row without a place
  pub none_of_row : (row : CompiledRow) (axis : Axis) (rows : List CompiledRow) (n : ℕ) → All (LiesAlong axis) rows →
      n < length rows → row ≡ get_or rows n row →
      row_places g table row ≡ [] → combinations (map (places g (direction_of axis)) (rows_meaning table rows)) ≡ []
  none_of_row row axis rows n along low is none =
      let lies : row.axis ≡ axis = ap (λ (r : CompiledRow). r.axis) is ∙ along n row low in
      let at : List (List (List CellMeaning)) = rows_meaning table rows in
      let within : n < length (map (places g (direction_of axis)) at) =
      rw (length-map at (places g (direction_of axis)), length-map rows (row_meaning table)) low in
      no_combination (map (places g (direction_of axis)) at) n [] within
      (get-shown_twice (row_meaning table) (places g (direction_of axis)) rows n row [] low is
      ∙ ap (λ (a : Axis). places g (direction_of a) (row_meaning table row)) (sym lies) ∙ none)

  -- the first place is chosen among those that were found
  module _ (row : CompiledRow) (found : Scratch) (places_are : places g (direction_of row.axis) (row_meaning table row) ≡
      all_places g.height row found) where
    sought : from_first (place_fits g table row.parts) (all_places g.height row found) ≡ places g
        (direction_of row.axis) (row_meaning table row)
    sought = ap (from_first (place_fits g table row.parts)) (sym places_are) ∙ all_fit_there (direction_of row.axis) row

    pub is_first : (row_scratch : Scratch) → HasLinesOf g row found → HaveSameStarts found row_scratch →
        IsChosenOf g table row (all_places g.height row found) row_scratch → HasFirst row row_scratch
    is_first row_scratch lines starts chosen =
        let alike : all_places g.height row row_scratch ≡ all_places g.height row found =
        same_places g table row found row_scratch starts in
        record {
          places = places_are ∙ sym alike;
          first = alike ∙ sym places_are ∙ sym sought ∙ chosen.found;
          fits = first_is (place_fits g table row.parts) (all_places g.height row found) (place_at g.height row row_scratch)
              (places_behind g.height row row_scratch) chosen.found;
          lines = record { at = λ line there. lines.at line (rw (← starts.lines) there) };
          place = chosen.place;
        }

    pub none_first : (axis : Axis) (rows : List CompiledRow) (n : ℕ) → All (LiesAlong axis) rows → n < length rows →
        row ≡ get_or rows n row →
        from_first (place_fits g table row.parts) (all_places g.height row found) ≡ [] →
        combinations (map (places g (direction_of axis)) (rows_meaning table rows)) ≡ []
    none_first axis rows n along low is none = none_of_row row axis rows n along low is (sym sought ∙ none)

  pub first_more : (rows : List CompiledRow) (scratch : List Scratch) (n m : ℕ) (row : CompiledRow) (row_scratch : Scratch) →
      m ≡ suc n → slice_get rows n ≡ Some row → n < length scratch →
      HasFirst row row_scratch → OfEach (λ k. k < n) rows scratch HasFirst →
      OfEach (λ k. k < m) rows (slice_set scratch n row_scratch) HasFirst
  first_more rows scratch n m row row_scratch next is low here all k r o less own there = elim (cases_eq k n) [
    | inl e ↦
        let d : r ≡ row = same_Some _ _ (sym own ∙ ap (slice_get rows) e ∙ is) in
        let f : o ≡ row_scratch = same_Some _ _ (sym there ∙ ap (slice_get (slice_set scratch n row_scratch)) e
        ∙ get_same scratch n (get_or scratch n row_scratch) row_scratch (slice_get-get_or scratch n row_scratch low)) in
        rw (d, f) here
    | inr other ↦ all k r o (omega (arith, less, next, other)) own (sym (get_other scratch n k row_scratch other) ∙ there)
  ]

  -- all rows fit at their first places
  pub first_fits : (rows : List CompiledRow) (scratch : List Scratch) → length rows ≤ length scratch →
      OfEach (λ k. 0 ≤ k) rows scratch HasFirst →
      all_fit g (rows_meaning table rows) (chosen (choices_of g.height rows scratch)) ≡ true
  first_fits rows scratch long each = chosen_fits g table rows scratch long (λ k r o low is there.
      (each k r o low is there).fits)
