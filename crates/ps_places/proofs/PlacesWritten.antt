-- All places of a part that leave each other alone, applied in their order, come to each cell of the board written by
-- the one cell of
-- the part that changes it.
use Rattle.std.proofs.Common.{◌≡◌, ◌∙◌, ℕ, ◌*◌, ◌<◌, ◌||◌, inl, inr, Bool, true, false, cond}
use Rattle.std.proofs.Common.{List, [], ◌∷◌, ◌++◌, length, map, filter, fold, refl, sym, ap}
use Rattle.std.specs.Prelude.{nat_eq}
use Rattle.std.proofs.lemmas.Bool.{cases_Bool, cases_eq, ne_eqb}
use Rattle.std.proofs.Math.Bool.{or-false}
use Rattle.ps_model.specs.declared.pieces.Direction.{Direction}
use Rattle.ps_model.specs.board.Grid.{Grid}
use Rattle.ps_model.specs.board.Attempts.{Rewritten, applied, combinations, rewritten_along}
use Rattle.ps_model.specs.board.Places.{cells_in, fits_along, places, stretches}
use Rattle.ps_model.specs.meaning.RuleMeanings.{CellMeaning}
use Rattle.ps_places.specs.Lines.{cells_from}
use Rattle.ps_match.proofs.RowWritten.{told}
use Rattle.ps_places.proofs.InGroups.{AreAlone, AreIdle, after, after-agree, after-none, during, during-end}
use Rattle.ps_places.proofs.InGroups.{during-start}
use Rattle.ps_places.proofs.InSearchOrder.{IsOneMore, alone, in_order}
use Rattle.ps_places.proofs.PlacesInTurn.{place_written, still_fits}

pub nothing_behind : {X : Type 0} (xs : List X) → xs ++ [] ≡ xs
nothing_behind [] = refl
nothing_behind (x ∷ xs) = ap (λ (rest : List _). x ∷ rest) (nothing_behind xs)

-- the rows of a rule of one part
abbrev pub rows_of : List CellMeaning → List (List (List CellMeaning))
rows_of all = (all ∷ []) ∷ []

abbrev if_fits : Rewritten → Rewritten → Bool → Rewritten
if_fits r written fits = let all : Bool = elim fits [ true ↦ true | false ↦ false ] in
    elim all [ true ↦ written | false ↦ r ]

-- a combination of one place is applied
applied_one : (r : Rewritten) (all : List CellMeaning) (place : List ℕ) → fits_along r.grid all place ≡ true →
    applied (rows_of all) r (place ∷ []) ≡ rewritten_along r all place
applied_one r all place fits =
    let only : cells_in (all ∷ []) ≡ all = nothing_behind all in
    let fit : fits_along r.grid (cells_in (all ∷ [])) place ≡ true =
    ap (λ (ms : List CellMeaning). fits_along r.grid ms place) only ∙ fits in
    ap (λ (b : Bool). if_fits r (rewritten_along r (cells_in (all ∷ [])) place) b) fit
    ∙ ap (λ (ms : List CellMeaning). rewritten_along r ms place) only

-- a place that leaves the others alone is done
pub place_done : (g : Grid) (step : ℕ) (starts : ℕ → Bool) (all : List CellMeaning) (changes : ℕ → Bool)
    (apart : AreAlone starts step all changes) → AreIdle all changes → (done more : ℕ → Bool) (n : ℕ) →
    starts n ≡ true → done n ≡ false → fits_along g all (cells_from step n (length all)) ≡ true →
    ((k : ℕ) → k < length g.cells → starts k ≡ true → more k ≡ (done k || nat_eq k n)) →
    applied (rows_of all) (after g starts step all changes apart done) (cells_from step n (length all) ∷ [])
    ≡ after g starts step all changes apart more
place_done g step starts all changes apart idle done more n on free fits e =
    let here : ℕ → Bool = λ k. nat_eq k n in
    ap (λ (r : Rewritten). applied (rows_of all) r (cells_from step n (length all) ∷ []))
    (during-start g starts step all changes apart done here)
    ∙ applied_one (during g starts step all changes apart done here 0) all (cells_from step n (length all))
    (still_fits g starts step all changes apart idle done n on free fits)
    ∙ place_written g starts step all changes apart idle done n on free fits
    ∙ during-end g starts step all changes apart done here more e

-- the places from a cell on
abbrev pub places_from : Grid → Direction → List CellMeaning → ℕ → List (List ℕ)
places_from g direction all n = filter (fits_along g (cells_in (all ∷ []))) (stretches g direction (length all ∷ []) n)

module _ (g : Grid) (direction : Direction) (step : ℕ) (starts : ℕ → Bool) (all : List CellMeaning) (changes : ℕ → Bool)
    (apart : AreAlone starts step all changes) (idle : AreIdle all changes)
    (place : (n : ℕ) → n < length g.cells → places_from g direction all n
    ≡ cond (starts n) (cells_from step n (length all) ∷ []) [])
    (fits : (n : ℕ) → n < length g.cells → starts n ≡ true → fits_along g all (cells_from step n (length all)) ≡ true)
    (some : 0 < g.height) (many : length g.cells ≡ g.width * g.height) where
  abbrev done_at : (ℕ → Bool) → Rewritten
  done_at done = after g starts step all changes apart done

  abbrev acts : Rewritten → List (List ℕ) → Rewritten
  acts r combination = applied (rows_of all) r combination

  not_started : (done more : ℕ → Bool) (n : ℕ) → starts n ≡ false → IsOneMore g done more n →
      done_at done ≡ done_at more
  not_started done more n off e =
      after-agree g starts step all changes apart done more
      (λ k low on. elim (cases_eq k n) [
        | inl same ↦ let no : true ≡ false = sym on ∙ ap starts same ∙ off in absurd (cc)
        | inr other ↦ sym (e k low ∙ ap (λ (b : Bool). done k || b) (ne_eqb k n other) ∙ or-false (done k))
      ])

  one_end : (done more : ℕ → Bool) (n : ℕ) → n < length g.cells → done n ≡ false → IsOneMore g done more n →
      fold acts (done_at done) (map alone (places_from g direction all n)) ≡ done_at more
  one_end done more n low free e =
      ap (λ (ps : List (List ℕ)). fold acts (done_at done) (map alone ps)) (place n low)
      ∙ elim (cases_Bool (starts n)) [
        | inl on ↦
            ap (λ (b : Bool). fold acts (done_at done) (map alone (cond b (cells_from step n (length all) ∷ []) []))) on
            ∙ place_done g step starts all changes apart idle done more n on free (fits n low on)
            (λ k below yes. e k below)
        | inr off ↦
            ap (λ (b : Bool). fold acts (done_at done) (map alone (cond b (cells_from step n (length all) ∷ []) [])))
            off
            ∙ not_started done more n off e
      ]

  -- all of them
  pub all_written : fold (applied (rows_of all)) (told g false) (combinations (places g direction (all ∷ []) ∷ []))
      ≡ after g starts step all changes apart (λ k. true)
  all_written =
      ap (λ (r : Rewritten). fold acts r (combinations (places g direction (all ∷ []) ∷ [])))
      (after-none g starts step all changes apart (λ k. false) (λ e low on. refl))
      ∙ ap (fold acts (done_at (λ k. false))) (nothing_behind (map alone (places g direction (all ∷ []))))
      ∙ in_order g (places_from g direction all) acts done_at
      (λ first second same. after-agree g starts step all changes apart first second (λ e low on. same e low)) one_end
      some many direction
