-- Places at which a row doesn't fit may be forgotten: combinations with them don't fit.
use Rattle.std.proofs.Common.{◌≡◌, ◌∙◌, ℕ, Bool, true, false, List, [], ◌∷◌, ◌++◌, map, filter, cond, refl, sym, ap}
use Rattle.std.proofs.Common.{ap₂}
use Rattle.std.specs.Prelude.{⊤}
use Rattle.std.proofs.lemmas.List.Elements.{filter-append}
use Rattle.ps_model.specs.board.Grid.{Grid}
use Rattle.ps_model.specs.board.Places.{fits_along, cells_in}
use Rattle.ps_model.specs.board.Attempts.{all_fit}
use Rattle.ps_model.specs.meaning.RuleMeanings.{CellMeaning}
use Rattle.ps_laws.proofs.common.Truths.{and_then}
use Rattle.ps_engine.specs.Choices.{Choice, behind, chosen, spread}

-- the same is chosen for a row and comes behind, and of all its places those are the same at which it fits
pub record IsSameFitting (g : Grid) (row : List (List CellMeaning)) (old new : Choice) : Type 0 where
  pub at : new.at ≡ old.at
  pub later : new.later ≡ old.later
  pub fitting : filter (fits_along g (cells_in row)) new.all ≡ filter (fits_along g (cells_in row)) old.all

-- so for each row
abbrev pub AreSameFitting : Grid → List (List (List CellMeaning)) → List Choice → List Choice → Type 0
AreSameFitting g rows [] [] = ⊤
AreSameFitting g rows [] (new ∷ others) = ⊥
AreSameFitting g rows (old ∷ choices) [] = ⊥
AreSameFitting g [] (old ∷ choices) (new ∷ others) = ⊥
AreSameFitting g (row ∷ rows) (old ∷ choices) (new ∷ others) =
    IsSameFitting g row old new × AreSameFitting g rows choices others

-- combinations of one row's places and one of the others
abbrev FitEach : Grid → List (List CellMeaning) → List (List (List CellMeaning)) → List (List ℕ) → Bool →
    List (List ℕ) → Type 0
FitEach g row rows rest fit places =
    filter (all_fit g (row ∷ rows))
    (map (λ place. place ∷ rest) places) ≡ cond fit
    (map (λ place. place ∷ rest) (filter (fits_along g (cells_in row)) places)) []

taken : {X : Type 0} (test : Bool) (x : X) (xs : List X) → test ≡ true → cond test (x ∷ xs) xs ≡ x ∷ xs
taken test x xs e = ap (λ (b : Bool). cond b (x ∷ xs) xs) e

passed : {X : Type 0} (test : Bool) (x : X) (xs : List X) → test ≡ false → cond test (x ∷ xs) xs ≡ xs
passed test x xs e = ap (λ (b : Bool). cond b (x ∷ xs) xs) e

with_one : (g : Grid) (row : List (List CellMeaning)) (rows : List (List (List CellMeaning))) (rest : List (List ℕ))
    (fit here : Bool) → all_fit g rows rest ≡ fit → (place : List ℕ) (places : List (List ℕ)) →
    fits_along g (cells_in row) place ≡ here → FitEach g row rows rest fit places →
    FitEach g row rows rest fit (place ∷ places)
with_one g row rows rest true true e place places h others =
    taken (all_fit g (row ∷ rows) (place ∷ rest))
    (place ∷ rest) _ (ap (λ (b : Bool). and_then b (all_fit g rows rest)) h ∙ e)
    ∙ ap (λ (xs : List (List (List ℕ))). (place ∷ rest) ∷ xs) others
    ∙ ap (λ (b : Bool). map (λ place. place ∷ rest)
    (cond b (place ∷ filter (fits_along g (cells_in row)) places) (filter (fits_along g (cells_in row)) places)))
    (sym h)
with_one g row rows rest false true e place places h others =
    passed (all_fit g (row ∷ rows) (place ∷ rest))
    (place ∷ rest) _ (ap (λ (b : Bool). and_then b (all_fit g rows rest)) h ∙ e) ∙ others
with_one g row rows rest true false e place places h others =
    passed (all_fit g (row ∷ rows) (place ∷ rest))
    (place ∷ rest) _ (ap (λ (b : Bool). and_then b (all_fit g rows rest)) h) ∙ others
    ∙ ap (λ (b : Bool). map (λ place. place ∷ rest)
    (cond b (place ∷ filter (fits_along g (cells_in row)) places) (filter (fits_along g (cells_in row)) places)))
    (sym h)
with_one g row rows rest false false e place places h others =
    passed (all_fit g (row ∷ rows) (place ∷ rest))
    (place ∷ rest) _ (ap (λ (b : Bool). and_then b (all_fit g rows rest)) h) ∙ others

with_each : (g : Grid) (row : List (List CellMeaning)) (rows : List (List (List CellMeaning))) (rest : List (List ℕ))
    (fit : Bool) → all_fit g rows rest ≡ fit → (places : List (List ℕ)) → FitEach g row rows rest fit places
with_each g row rows rest true e [] = refl
with_each g row rows rest false e [] = refl
with_each g row rows rest fit e (place ∷ places) =
    with_one g row rows rest fit (fits_along g (cells_in row) place) e place places refl
    (with_each g row rows rest fit e places)

-- with each of the others
spread_of : (places : List (List ℕ)) (rest : List (List ℕ)) (rests : List (List (List ℕ))) (fit : Bool) →
    cond fit (map (λ place. place ∷ rest) places) [] ++ spread places rests ≡ spread places
    (cond fit (rest ∷ rests) rests)
spread_of places rest rests true = refl
spread_of places rest rests false = refl

spread_fitting : (g : Grid) (row : List (List CellMeaning)) (rows : List (List (List CellMeaning)))
    (places : List (List ℕ)) (rests : List (List (List ℕ))) →
    filter (all_fit g (row ∷ rows)) (spread places rests) ≡ spread (filter (fits_along g (cells_in row)) places)
    (filter (all_fit g rows) rests)
spread_fitting g row rows places [] = refl
spread_fitting g row rows places (rest ∷ rests) =
    filter-append (all_fit g (row ∷ rows)) (map (λ place. place ∷ rest) places) (spread places rests)
    ∙ ap₂ (λ (xs ys : List (List (List ℕ))). xs ++ ys) (with_each g row rows rest (all_fit g rows rest) refl places)
    (spread_fitting g row rows places rests)
    ∙ spread_of (filter (fits_along g (cells_in row)) places) rest (filter (all_fit g rows) rests) (all_fit g rows rest)

pub same_chosen : (g : Grid) (rows : List (List (List CellMeaning))) (choices others : List Choice) →
    AreSameFitting g rows choices others → chosen others ≡ chosen choices
same_chosen g rows [] [] same = refl
same_chosen g rows [] (new ∷ others) same = absurd same
same_chosen g rows (old ∷ choices) [] same = absurd same
same_chosen g [] (old ∷ choices) (new ∷ others) same = absurd same
same_chosen g (row ∷ rows) (old ∷ choices) (new ∷ others) same =
    ap₂ (λ (x : List ℕ) (xs : List (List ℕ)). x ∷ xs) same.0.at (same_chosen g rows choices others same.1)

-- so the combinations behind are those at which all fit
pub same_behind : (g : Grid) (rows : List (List (List CellMeaning))) (choices others : List Choice) →
    AreSameFitting g rows choices others →
    filter (all_fit g rows) (behind others) ≡ filter (all_fit g rows) (behind choices)
same_behind g rows [] [] same = refl
same_behind g rows [] (new ∷ others) same = absurd same
same_behind g rows (old ∷ choices) [] same = absurd same
same_behind g [] (old ∷ choices) (new ∷ others) same = absurd same
same_behind g (row ∷ rows) (old ∷ choices) (new ∷ others) same =
    filter-append (all_fit g (row ∷ rows)) (map (λ place. place ∷ chosen others) new.later)
    (spread new.all (behind others))
    ∙ ap₂ (λ (xs ys : List (List (List ℕ))). xs ++ ys)
    (ap₂ (λ (later : List (List ℕ)) (rest : List (List ℕ)).
    filter (all_fit g (row ∷ rows)) (map (λ place. place ∷ rest) later)) same.0.later
    (same_chosen g rows choices others same.1))
    (spread_fitting g row rows new.all (behind others)
    ∙ ap₂ (λ (places : List (List ℕ)) (rests : List (List (List ℕ))).
    spread places rests) same.0.fitting (same_behind g rows choices others same.1)
    ∙ sym (spread_fitting g row rows old.all (behind choices)))
    ∙ sym (filter-append (all_fit g (row ∷ rows)) (map (λ place. place ∷ chosen choices) old.later)
    (spread old.all (behind choices)))
