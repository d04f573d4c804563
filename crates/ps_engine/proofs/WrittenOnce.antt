-- A row of a rule of which one cell alone changes anything, and whose write keeps what the others fit: the places
-- where it fits at the start come to that cell rewritten at each of them, once.
use Rattle.std.proofs.Common.{◌≡◌, ◌∙◌, ℕ, suc, ◌<◌, ◌||◌, inl, inr, Bool, true, false, not, Option, Some, None, List}
use Rattle.std.proofs.Common.{[], ◌∷◌, ◌++◌, length, fold, drop, refl, sym, ap, ap₂}
use Rattle.std.specs.Prelude.{All, nat_eq, slice_get, slice_index_or, slice_set}
use Rattle.std.specs.List.{list_any}
use Rattle.std.proofs.Math.Bool.{or-false, or_assoc}
use Rattle.std.proofs.lemmas.Bool.{cases_eq, eqb-true, ne_eqb}
use Rattle.std.proofs.lemmas.List.{set-get_or}
use Rattle.std.proofs.lemmas.List.Elements.{All-head, All-tail}
use Rattle.std.proofs.lemmas.Option.{get_or_from_slice_get, slice_get-get_or, slice_get_within}
use Rattle.ps_model.specs.declared.pieces.Slot.{Slot}
use Rattle.ps_model.specs.board.Grid.{Grid, cell_at}
use Rattle.ps_model.specs.board.Places.{fits_along, fits_there}
use Rattle.ps_model.specs.board.Attempts.{Rewritten, rewritten_along, rewritten_cell, with_cell}
use Rattle.ps_model.specs.meaning.RuleMeanings.{CellMeaning}
use Rattle.ps_laws.proofs.common.SameThings.{same_cell-own}
use Rattle.ps_laws.proofs.common.Truths.{both-hold}
use Rattle.ps_match.specs.Together.{cell_where, rewritten_where}
use Rattle.ps_places.proofs.Apart.{applied_along, applied_by}
use Rattle.ps_places.proofs.WrittenToItself.{with_change}
use Rattle.ps_match.proofs.Chosen.{cell_at-where, length-where, where-agree, where-one}
use Rattle.ps_match.proofs.RowWritten.{told, told-more}

-- a cell of a rule leaves what it fits as it is, and what fits it fits it behind a writing
pub record StandsAside (becomes : List Slot → List Slot) (a : CellMeaning) : Type 0 where
  pub still : (cell : List Slot) → a.fits cell ≡ true → a.rewritten cell ≡ cell
  pub keeps : (cell : List Slot) → a.fits cell ≡ true → a.fits (becomes cell) ≡ true

-- the cell of a place with a number in it
abbrev pub target_of : ℕ → List ℕ → ℕ
target_of number place = slice_index_or place number 0

-- tests in a row ------------------------------------------------------------------------------------------------------

if_both : (test rest : Bool) → test ≡ true → rest ≡ true → (elim test [ true ↦ rest | false ↦ false ]) ≡ true
if_both test rest e d = rw (e, d) refl

-- one cell of the board -----------------------------------------------------------------------------------------------

pub fits_within : (h : Grid) (a : CellMeaning) (n : ℕ) → fits_there a (slice_get h.cells n) ≡ true → n < length h.cells
fits_within h a n fits = by (slice_get h.cells n) refl fits where
  by : (found : Option (List Slot)) → slice_get h.cells n ≡ found → fits_there a found ≡ true → n < length h.cells
  by None e good = absurd (cc)
  by (Some cell) e good = slice_get_within h.cells n cell e

-- a cell put where it stands

pub put_again : (r : Rewritten) (n : ℕ) (cell : List Slot) → slice_get (r.grid).cells n ≡ Some cell →
    with_cell r n cell cell ≡ r
put_again r n cell is =
    let cells : List (List Slot) = (r.grid).cells in
    let put : slice_set cells n cell ≡ cells =
    ap (slice_set cells n) (sym (get_or_from_slice_get cells n cell cell is)) ∙ set-get_or cells n cell in
    ap₂ (with_change r) put (ap not (same_cell-own cell))
    ∙ ap (λ (b : Bool). let again : Rewritten = record { grid = r.grid; changed = b } in again) (or-false r.changed)

module _ (g : Grid) (m : CellMeaning) where
  abbrev where_ : (ℕ → Bool) → Rewritten
  where_ chosen = rewritten_where g m.rewritten chosen

  -- the cell that stands there then
  found_there : (chosen : ℕ → Bool) (n : ℕ) → n < length g.cells →
      slice_get (where_ chosen).grid.cells n ≡ Some (cell_where g m.rewritten chosen n)
  found_there chosen n low =
      let h : Grid = (where_ chosen).grid in
      let inside : n < length h.cells = rw (length-where g m.rewritten chosen) low in
      slice_get-get_or h.cells n [] inside ∙ ap Some (cell_at-where g m.rewritten chosen n low)

  fits_by : (a : CellMeaning) (n : ℕ) → n < length g.cells → fits_there a (slice_get g.cells n) ≡ true →
      a.fits (cell_at g n) ≡ true
  fits_by a n low fits = ap (fits_there a) (sym (slice_get-get_or g.cells n [] low)) ∙ fits

  still_fits : (a : CellMeaning) → StandsAside m.rewritten a → (chosen : ℕ → Bool) (n : ℕ) (b : Bool) → chosen n ≡ b →
      fits_there a (slice_get g.cells n) ≡ true → fits_there a (slice_get (where_ chosen).grid.cells n) ≡ true
  still_fits a aside chosen n true e fits =
      let low : n < length g.cells = fits_within g a n fits in
      ap (fits_there a) (found_there chosen n low) ∙ rw e (aside.keeps (cell_at g n) (fits_by a n low fits))
  still_fits a aside chosen n false e fits =
      let low : n < length g.cells = fits_within g a n fits in
      ap (fits_there a) (found_there chosen n low) ∙ rw e (fits_by a n low fits)

idle_there : (becomes : List Slot → List Slot) (r : Rewritten) (a : CellMeaning) → StandsAside becomes a → (n : ℕ)
    (found : Option (List Slot)) → slice_get (r.grid).cells n ≡ found → fits_there a found ≡ true →
    rewritten_cell r a n found ≡ r
idle_there becomes r a aside n None e fit = refl
idle_there becomes r a aside n (Some cell) e fit = ap (with_cell r n cell) (aside.still cell fit) ∙ put_again r n cell e

-- the other cells of the row ------------------------------------------------------------------------------------------

rest_fits : (g : Grid) (m : CellMeaning) (others : List CellMeaning) → All (StandsAside m.rewritten) others →
    (chosen : ℕ → Bool) (place : List ℕ) →
    fits_along g others place ≡ true → fits_along (rewritten_where g m.rewritten chosen).grid others place ≡ true
rest_fits g m [] aside chosen [] e = refl
rest_fits g m [] aside chosen (n ∷ place) e = absurd (cc)
rest_fits g m (a ∷ others) aside chosen [] e = absurd (cc)
rest_fits g m (a ∷ others) aside chosen (n ∷ place) e =
    let parts = both-hold (fits_there a (slice_get g.cells n)) (fits_along g others place) e in
    if_both _ _ (still_fits g m a (All-head (StandsAside m.rewritten) a others aside) chosen n (chosen n) refl parts.0)
    (rest_fits g m others (All-tail (StandsAside m.rewritten) a others aside) chosen place parts.1)

rest_still : (becomes : List Slot → List Slot) (others : List CellMeaning) → All (StandsAside becomes) others →
    (r : Rewritten) (place : List ℕ) →
    fits_along r.grid others place ≡ true → rewritten_along r others place ≡ r
rest_still becomes [] aside r place e = refl
rest_still becomes (a ∷ others) aside r [] e = refl
rest_still becomes (a ∷ others) aside r (n ∷ place) e =
    let parts = both-hold (fits_there a (slice_get (r.grid).cells n)) (fits_along r.grid others place) e in
    ap (λ (x : Rewritten). rewritten_along x others place)
    (idle_there becomes r a (All-head (StandsAside becomes) a others aside) n (slice_get (r.grid).cells n) refl parts.0)
    ∙ rest_still becomes others (All-tail (StandsAside becomes) a others aside) r place parts.1

module _ (m : CellMeaning) (after : List CellMeaning) where
  pub target_fits : (h : Grid) (before : List CellMeaning) (place : List ℕ) →
      fits_along h (before ++ m ∷ after) place ≡ true →
      fits_there m (slice_get h.cells (target_of (length before) place)) ≡ true
  target_fits h [] [] e = absurd (cc)
  target_fits h [] (n ∷ place) e = (both-hold (fits_there m (slice_get h.cells n)) (fits_along h after place) e).0
  target_fits h (b ∷ before) [] e = absurd (cc)
  target_fits h (b ∷ before) (n ∷ place) e =
      target_fits h before place (both-hold (fits_there b (slice_get h.cells n)) (fits_along h
      (before ++ m ∷ after) place) e).1

  after_fits : (h : Grid) (before : List CellMeaning) (place : List ℕ) →
      fits_along h (before ++ m ∷ after) place ≡ true →
      fits_along h after (drop (suc (length before)) place) ≡ true
  after_fits h [] [] e = absurd (cc)
  after_fits h [] (n ∷ place) e = (both-hold (fits_there m (slice_get h.cells n)) (fits_along h after place) e).1
  after_fits h (b ∷ before) [] e = absurd (cc)
  after_fits h (b ∷ before) (n ∷ place) e =
      after_fits h before place (both-hold (fits_there b (slice_get h.cells n)) (fits_along h
      (before ++ m ∷ after) place) e).1

  fits_again : (g : Grid) → All (StandsAside m.rewritten) after → (before : List CellMeaning) →
      All (StandsAside m.rewritten) before →
      (chosen : ℕ → Bool) (place : List ℕ) → fits_along g (before ++ m ∷ after) place ≡ true →
      fits_there m (slice_get (rewritten_where g m.rewritten chosen).grid.cells (target_of
      (length before) place)) ≡ true →
      fits_along (rewritten_where g m.rewritten chosen).grid (before ++ m ∷ after) place ≡ true
  fits_again g behind [] aside chosen [] e here = absurd (cc)
  fits_again g behind [] aside chosen (n ∷ place) e here =
      if_both _ _ here (rest_fits g m after behind chosen place (both-hold (fits_there m (slice_get g.cells n))
      (fits_along g after place) e).1)
  fits_again g behind (b ∷ before) aside chosen [] e here = absurd (cc)
  fits_again g behind (b ∷ before) aside chosen (n ∷ place) e here =
      let parts = both-hold (fits_there b (slice_get g.cells n)) (fits_along g (before ++ m ∷ after) place) e in
      if_both _ _ (still_fits g m b (All-head (StandsAside m.rewritten) b before aside) chosen n
      (chosen n) refl parts.0)
      (fits_again g behind before (All-tail (StandsAside m.rewritten) b before aside) chosen place parts.1 here)

  written_through : (r : Rewritten) (before : List CellMeaning) → All (StandsAside m.rewritten) before →
      (place : List ℕ) →
      fits_along r.grid (before ++ m ∷ after) place ≡ true →
      rewritten_along r (before ++ m ∷ after) place
      ≡ rewritten_along (rewritten_cell r m (target_of (length before) place) (slice_get (r.grid).cells (target_of
      (length before) place))) after
      (drop (suc (length before)) place)
  written_through r [] aside [] e = absurd (cc)
  written_through r [] aside (n ∷ place) e = refl
  written_through r (b ∷ before) aside [] e = absurd (cc)
  written_through r (b ∷ before) aside (n ∷ place) e =
      let parts = both-hold (fits_there b (slice_get (r.grid).cells n)) (fits_along r.grid
      (before ++ m ∷ after) place) e in
      ap (λ (x : Rewritten). rewritten_along x (before ++ m ∷ after) place)
      (idle_there m.rewritten r b (All-head (StandsAside m.rewritten) b before aside) n (slice_get
      (r.grid).cells n) refl parts.0)
      ∙ written_through r before (All-tail (StandsAside m.rewritten) b before aside) place parts.1

-- one place -----------------------------------------------------------------------------------------------------------

module _ (g : Grid) (before after : List CellMeaning) (m : CellMeaning) (aside : All (StandsAside m.rewritten) before)
    (behind : All (StandsAside m.rewritten) after) (twice : (cell : List Slot) →
    m.rewritten (m.rewritten cell) ≡ m.rewritten cell) where
  abbrev whole : List CellMeaning
  whole = before ++ m ∷ after

  abbrev at : List ℕ → ℕ
  at place = target_of (length before) place

  abbrev now : (ℕ → Bool) → Rewritten
  now chosen = rewritten_where g m.rewritten chosen

  low_at : (place : List ℕ) → fits_along g whole place ≡ true → at place < length g.cells
  low_at place fits = fits_within g m (at place) (target_fits m after g before place fits)

  -- what comes behind the cell that is written changes nothing
  behind_still : (chosen : ℕ → Bool) (place : List ℕ) → fits_along g whole place ≡ true →
      rewritten_along (now chosen) after (drop (suc (length before)) place) ≡ now chosen
  behind_still chosen place fits =
      rest_still m.rewritten after behind (now chosen) (drop (suc (length before)) place)
      (rest_fits g m after behind chosen (drop (suc (length before)) place) (after_fits m after g before place fits))

  -- its cell was written before
  again_by : (done : ℕ → Bool) (place : List ℕ) (fit : Bool) → fits_along g whole place ≡ true →
      done (at place) ≡ true →
      fits_along (now done).grid whole place ≡ fit → applied_along whole (now done) place ≡ now done
  again_by done place false fits is e = applied_by whole (now done) place false e
  again_by done place true fits is e =
      let n : ℕ = at place in
      let c : List Slot = m.rewritten (cell_at g n) in
      let there : slice_get (now done).grid.cells n ≡ Some c = found_there g m done n (low_at place fits)
      ∙ rw is refl in
      let same : rewritten_cell (now done) m n (slice_get (now done).grid.cells n) ≡ now done =
      ap (rewritten_cell (now done) m n) there ∙ ap (with_cell (now done) n c) (twice (cell_at g n)) ∙ put_again
      (now done) n c there in
      applied_by whole (now done) place true e ∙ written_through m after (now done) before aside place e
      ∙ ap (λ (r : Rewritten). rewritten_along r after (drop (suc (length before)) place)) same
      ∙ behind_still done place fits

  -- or it is written now
  first_time : (done more : ℕ → Bool) (place : List ℕ) → fits_along g whole place ≡ true → done (at place) ≡ false →
      ((k : ℕ) → k < length g.cells → more k ≡ (done k || nat_eq k (at place))) →
      applied_along whole (now done) place ≡ now more
  first_time done more place fits free e =
      let n : ℕ = at place in
      let low : n < length g.cells = low_at place fits in
      let r : Rewritten = now done in
      let h : Grid = r.grid in
      let cell : List Slot = cell_at g n in
      let here : slice_get h.cells n ≡ Some cell = found_there g m done n low ∙ rw free refl in
      let same : cell_at h n ≡ cell = cell_at-where g m.rewritten done n low ∙ rw free refl in
      let inside : n < length h.cells = rw (length-where g m.rewritten done) low in
      let passes : fits_there m (slice_get h.cells n) ≡ true =
      ap (fits_there m) here ∙ fits_by g m m n low (target_fits m after g before place fits) in
      let fit : fits_along h whole place ≡ true = fits_again m after g behind before aside done place fits passes in
      let next : Rewritten = with_cell r n cell (m.rewritten cell) in
      let one : rewritten_where h m.rewritten (λ k. nat_eq k n) ≡ with_cell (told h false) n cell (m.rewritten cell) =
      where-one h m.rewritten n inside ∙ ap (λ (c : List Slot). with_cell (told h false) n c (m.rewritten c)) same in
      let step : next ≡ now more =
      told-more g h next.grid m.rewritten r.changed next.changed done (λ k. nat_eq k n) more refl (sym (ap (λ
      (x : Rewritten). x.grid) one))
      (sym (ap (λ (x : Rewritten). r.changed || x.changed) one))
      (λ k below chosen. let is : k ≡ n = eqb-true k n chosen in ap done is ∙ free) e in
      applied_by whole r place true fit ∙ written_through m after r before aside place fit
      ∙ ap (λ (found : Option (List Slot)). rewritten_along (rewritten_cell r m n found) after (drop (suc
      (length before)) place)) here
      ∙ ap (λ (x : Rewritten). rewritten_along x after (drop (suc (length before)) place)) step
      ∙ behind_still more place fits

  one_place_by : (done more : ℕ → Bool) (place : List ℕ) (b : Bool) → done (at place) ≡ b →
      fits_along g whole place ≡ true →
      ((k : ℕ) → k < length g.cells → more k ≡ (done k || nat_eq k (at place))) →
      applied_along whole (now done) place ≡ now more
  one_place_by done more place true is fits e =
      again_by done place (fits_along (now done).grid whole place) fits is refl
      ∙ where-agree g m.rewritten done more
      (λ k low. elim (cases_eq k (at place)) [
        | inl same ↦ let so : done k ≡ true = ap done same ∙ is in sym (e k low ∙ ap (λ (b : Bool). b || nat_eq k
            (at place)) so ∙ sym so)
        | inr other ↦ sym (e k low ∙ rw (ne_eqb k (at place) other) (or-false (done k)))
      ])
  one_place_by done more place false is fits e = first_time done more place fits is e

  -- all places --------------------------------------------------------------------------------------------------------

  abbrev Fits : List ℕ → Type 0
  Fits place = fits_along g whole place ≡ true

  -- one of these places has its target there
  abbrev is_target : List (List ℕ) → ℕ → Bool
  is_target places n = list_any (λ place. nat_eq n (at place)) places

  pub places_from : (done : ℕ → Bool) (places : List (List ℕ)) → All Fits places →
      fold (applied_along whole) (now done) places ≡ now (λ n. done n || is_target places n)
  places_from done [] fit = where-agree g m.rewritten done (λ n. done n || false) (λ k low. sym (or-false (done k)))
  places_from done (place ∷ places) fit =
      let more : ℕ → Bool = λ k. done k || nat_eq k (at place) in
      ap (λ (r : Rewritten). fold (applied_along whole) r places)
      (one_place_by done more place (done (at place)) refl (All-head Fits place places fit) (λ k low. refl))
      ∙ places_from more places (All-tail Fits place places fit)
      ∙ where-agree g m.rewritten (λ n. more n || is_target places n) (λ n. done n || is_target (place ∷ places) n)
      (λ k low. or_assoc (done k) (nat_eq k (at place)) (is_target places k))
