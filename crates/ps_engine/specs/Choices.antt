-- A combination of places that is chosen, and those behind it in their order: the first row's place changes fastest.
use Rattle.std.specs.Prelude.{ℕ, zero, suc, List, [], ◌∷◌, ◌++◌, map}
use Rattle.std.specs.List.{flat_map}
use Rattle.ps_program.specs.declared.rows.CompiledRow.{CompiledRow}
use Rattle.ps_places.specs.Scratch.{Scratch}
use Rattle.ps_places.specs.RowPlaces.{all_places, place_at, places_behind}

-- a row's places, the one of them that is chosen, and those behind it
pub record Choice : Type 0 where
  pub all : List (List ℕ)
  pub at : List ℕ
  pub later : List (List ℕ)

-- what is chosen for rows, on a board so high
abbrev pub choice_of : ℕ → CompiledRow → Scratch → Choice
choice_of height row row_scratch =
    record { all = all_places height row row_scratch; at = place_at height row row_scratch; later = places_behind height row row_scratch }

abbrev pub choices_of : ℕ → List CompiledRow → List Scratch → List Choice
choices_of height [] scratch = []
choices_of height (row ∷ rows) [] = []
choices_of height (row ∷ rows) (row_scratch ∷ scratch) = choice_of height row row_scratch ∷ choices_of height rows scratch

-- the combination that is chosen
abbrev pub chosen : List Choice → List (List ℕ)
chosen choices = map (λ choice. choice.at) choices

-- each place of a list before each combination of the others
abbrev pub spread : List (List ℕ) → List (List (List ℕ)) → List (List (List ℕ))
spread places others = flat_map (λ rest. map (λ place. place ∷ rest) places) others

-- the combinations behind it
abbrev pub behind : List Choice → List (List (List ℕ))
behind [] = []
behind (choice ∷ choices) = map (λ place. place ∷ chosen choices) choice.later ++ spread choice.all (behind choices)

-- those behind it that change the place of the row with a number or of a slower one
abbrev pub behind_from : ℕ → List Choice → List (List (List ℕ))
behind_from zero choices = behind choices
behind_from (suc number) [] = []
behind_from (suc number) (choice ∷ choices) = spread choice.all (behind_from number choices)
