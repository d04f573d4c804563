-- Where each row of a rule has a place, there is a combination.
use Rattle.std.proofs.Common.{◌≡◌, ◌≢◌, ◌∙◌, ℕ, suc, ◌<◌, inl, inr, Option, Some, List, [], ◌∷◌, length, map, refl}
use Rattle.std.proofs.Common.{subst, sym, ap, arith}
use Rattle.std.specs.Prelude.{All, slice_get}
use Rattle.std.proofs.lemmas.Bool.{cases_eq}
use Rattle.std.proofs.lemmas.Option.{same_Some}
use Rattle.ps_model.specs.board.Grid.{Grid}
use Rattle.ps_model.specs.board.Places.{places}
use Rattle.ps_model.specs.board.Attempts.{combinations}
use Rattle.ps_program.specs.declared.rows.Axis.{Axis}
use Rattle.ps_program.specs.declared.rows.CompiledRow.{CompiledRow}
use Rattle.ps_program.specs.Axes.{LiesAlong, direction_of}
use Rattle.ps_places.specs.RowPlaces.{row_meaning}
use Rattle.ps_engine.specs.Choices.{spread}
use Rattle.ps_engine.specs.Choosing.{row_places, rows_meaning}

some_spread : (places : List (List ℕ)) (rests : List (List (List ℕ))) → places ≢ [] → rests ≢ [] →
    spread places rests ≢ []
some_spread places [] some others e = others refl
some_spread [] (rest ∷ rests) some others e = some refl
some_spread (place ∷ places) (rest ∷ rests) some others e = absurd (cc)

-- the rows with such numbers have places
abbrev pub HavePlaces : Grid → Option (List ℕ) → List CompiledRow → ℕ → Type 0
HavePlaces g table rows count = (k : ℕ) (row : CompiledRow) → k < count → slice_get rows k ≡ Some row →
    row_places g table row ≢ []

pub more_places : (g : Grid) (table : Option (List ℕ)) (rows : List CompiledRow) (n m : ℕ) (row : CompiledRow) →
    m ≡ suc n → slice_get rows n ≡ Some row → row_places g table row ≢ [] →
    HavePlaces g table rows n → HavePlaces g table rows m
more_places g table rows n m row next is here all k r less own = elim (cases_eq k n) [
  | inl same ↦ let e : r ≡ row = same_Some _ _ (sym own ∙ ap (slice_get rows) same ∙ is) in rw e here
  | inr other ↦ all k r (omega (arith, less, next, other)) own
]

pub some_combination : (g : Grid) (table : Option (List ℕ)) (axis : Axis) (rows : List CompiledRow) →
    All (LiesAlong axis) rows → HavePlaces g table rows (length rows) →
    combinations (map (places g (direction_of axis)) (rows_meaning table rows)) ≢ []
some_combination g table axis [] along each = λ e. absurd (cc)
some_combination g table axis (row ∷ rows) along each =
    let lies : row.axis ≡ axis = along 0 row (omega arith) in
    let own : places g (direction_of axis) (row_meaning table row) ≢ [] =
    subst (λ (a : Axis). places g (direction_of a) (row_meaning table row) ≢ []) lies (each 0 row (omega arith) refl) in
    some_spread (places g (direction_of axis) (row_meaning table row))
    (combinations (map (places g (direction_of axis)) (rows_meaning table rows))) own
    (some_combination g table axis rows (λ k d low. along (suc k) d (omega (arith, low))) (λ k r low is.
    each (suc k) r (omega (arith, low)) is))
