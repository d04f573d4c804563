-- Places that share no cell of the board: each fits as if the other weren't there, and they may be rewritten in either
-- order.
use Rattle.std.proofs.Common.{◌≡◌, ◌≢◌, ◌∙◌, ℕ, ◌<◌, ◌≤◌, Bool, true, false, List, [], ◌∷◌, refl, sym, ap, ap₂, arith}
use Rattle.std.specs.Prelude.{slice_get, ⊤}
use Rattle.ps_model.specs.board.Places.{fits_along, fits_there}
use Rattle.ps_model.specs.board.Attempts.{Rewritten, applied, rewritten_along}
use Rattle.ps_model.specs.meaning.RuleMeanings.{CellMeaning}
use Rattle.ps_laws.proofs.alike.TurnedAttempts.{cell-other, cell_step, cells-swap, chosen_by}
use Rattle.ps_places.proofs.PlacesWritten.{nothing_behind, rows_of}
use Rattle.ps_places.proofs.Untouched.{AreBelow, AreFrom}

-- a list is without a number, and two lists have no number that is in both
abbrev pub IsWithout : List ℕ → ℕ → Type 0
IsWithout [] n = ⊤
IsWithout (cell ∷ cells) n = (n ≢ cell) × IsWithout cells n

abbrev pub AreApart : List ℕ → List ℕ → Type 0
AreApart [] others = ⊤
AreApart (cell ∷ cells) others = IsWithout others cell × AreApart cells others

-- lists of which one lies before the other ----------------------------------------------------------------------------

none-from : (n start : ℕ) (cells : List ℕ) → n < start → AreFrom start cells → IsWithout cells n
none-from n start [] low far = tt
none-from n start (cell ∷ cells) low far =
    (λ same. absurd (omega (arith, same, low, far.0)), none-from n start cells low far.1)

none-below : (n end : ℕ) (cells : List ℕ) → end ≤ n → AreBelow end cells → IsWithout cells n
none-below n end [] high low = tt
none-below n end (cell ∷ cells) high low =
    (λ same. absurd (omega (arith, same, high, low.0)), none-below n end cells high low.1)

pub apart-before : (border : ℕ) (cells others : List ℕ) → AreBelow border cells → AreFrom border others →
    AreApart cells others
apart-before border [] others low far = tt
apart-before border (cell ∷ cells) others low far =
    (none-from cell border others low.0 far, apart-before border cells others low.1 far)

pub apart-behind : (border : ℕ) (cells others : List ℕ) → AreFrom border cells → AreBelow border others →
    AreApart cells others
apart-behind border [] others far low = tt
apart-behind border (cell ∷ cells) others far low =
    (none-below cell border others far.0 low, apart-behind border cells others far.1 low)

-- one cell ------------------------------------------------------------------------------------------------------------

read-along : (r : Rewritten) (ms : List CellMeaning) (cells : List ℕ) (n : ℕ) → IsWithout cells n →
    slice_get (rewritten_along r ms cells).grid.cells n ≡ slice_get (r.grid).cells n
read-along r [] cells n apart = refl
read-along r (m ∷ ms) [] n apart = refl
read-along r (m ∷ ms) (cell ∷ cells) n apart =
    read-along (cell_step r m cell) ms cells n apart.1
    ∙ cell-other r m cell n (slice_get (r.grid).cells cell) (λ e. apart.0 (sym e))

-- places --------------------------------------------------------------------------------------------------------------

cell_along : (r : Rewritten) (m : CellMeaning) (n : ℕ) (ms : List CellMeaning) (cells : List ℕ) → IsWithout cells n →
    rewritten_along (cell_step r m n) ms cells ≡ cell_step (rewritten_along r ms cells) m n
cell_along r m n [] cells apart = refl
cell_along r m n (p ∷ ms) [] apart = refl
cell_along r m n (p ∷ ms) (cell ∷ cells) apart =
    ap (λ (s : Rewritten). rewritten_along s ms cells) (cells-swap r m p n cell apart.0)
    ∙ cell_along (cell_step r p cell) m n ms cells apart.1

both_along : (r : Rewritten) (ms ps : List CellMeaning) (cells others : List ℕ) → AreApart cells others →
    rewritten_along (rewritten_along r ms cells) ps others ≡ rewritten_along (rewritten_along r ps others) ms cells
both_along r [] ps cells others apart = refl
both_along r (m ∷ ms) ps [] others apart = refl
both_along r (m ∷ ms) ps (cell ∷ cells) others apart =
    both_along (cell_step r m cell) ms ps cells others apart.1
    ∙ ap (λ (s : Rewritten). rewritten_along s ms cells) (cell_along r m cell ps others apart.0)

fits_beside : (r : Rewritten) (ms ps : List CellMeaning) (cells others : List ℕ) → AreApart cells others →
    fits_along (rewritten_along r ps others).grid ms cells ≡ fits_along r.grid ms cells
fits_beside r [] ps [] others apart = refl
fits_beside r [] ps (cell ∷ cells) others apart = refl
fits_beside r (m ∷ ms) ps [] others apart = refl
fits_beside r (m ∷ ms) ps (cell ∷ cells) others apart =
    ap₂ (λ (a b : Bool). elim a [ true ↦ b | false ↦ false ])
    (ap (fits_there m) (read-along r ps others cell apart.0))
    (fits_beside r ms ps cells others apart.1)

-- a row of a rule rewritten at a place, if it fits there
abbrev pub applied_along : List CellMeaning → Rewritten → List ℕ → Rewritten
applied_along ms r place = elim (fits_along r.grid ms place) [ true ↦ rewritten_along r ms place | false ↦ r ]

pub applied_by : (ms : List CellMeaning) (r : Rewritten) (place : List ℕ) (fit : Bool) →
    fits_along r.grid ms place ≡ fit →
    applied_along ms r place ≡ elim fit [ true ↦ rewritten_along r ms place | false ↦ r ]
applied_by ms r place fit e = ap (λ (b : Bool). elim b [ true ↦ rewritten_along r ms place | false ↦ r ]) e

pub applied-is : (ms : List CellMeaning) (r : Rewritten) (place : List ℕ) →
    applied (rows_of ms) r (place ∷ []) ≡ applied_along ms r place
applied-is ms r place =
    ap (λ (all : List CellMeaning). chosen_by (elim (fits_along r.grid all place) [ true ↦ true | false ↦ false ])
    (rewritten_along r all place) r) (nothing_behind ms)
    ∙ by (fits_along r.grid ms place) where
      by : (b : Bool) → chosen_by (elim b [ true ↦ true | false ↦ false ]) (rewritten_along r ms place) r
          ≡ elim b [ true ↦ rewritten_along r ms place | false ↦ r ]
      by true = refl
      by false = refl

pub either_first : (ms : List CellMeaning) (r : Rewritten) (cells others : List ℕ) → AreApart cells others →
    AreApart others cells →
    applied_along ms (applied_along ms r cells) others ≡ applied_along ms (applied_along ms r others) cells
either_first ms r cells others apart back =
    by (fits_along r.grid ms cells) (fits_along r.grid ms others) refl refl where
      first : Rewritten
      first = rewritten_along r ms cells

      second : Rewritten
      second = rewritten_along r ms others

      by : (here there : Bool) → fits_along r.grid ms cells ≡ here → fits_along r.grid ms others ≡ there →
          applied_along ms (applied_along ms r cells) others ≡ applied_along ms (applied_along ms r others) cells
      by true true e d =
          ap (λ (s : Rewritten). applied_along ms s others) (applied_by ms r cells true e)
          ∙ applied_by ms first others true (fits_beside r ms ms others cells back ∙ d)
          ∙ both_along r ms ms cells others apart
          ∙ sym (applied_by ms second cells true (fits_beside r ms ms cells others apart ∙ e))
          ∙ sym (ap (λ (s : Rewritten). applied_along ms s cells) (applied_by ms r others true d))
      by true false e d =
          ap (λ (s : Rewritten). applied_along ms s others) (applied_by ms r cells true e)
          ∙ applied_by ms first others false (fits_beside r ms ms others cells back ∙ d)
          ∙ sym (applied_by ms r cells true e)
          ∙ sym (ap (λ (s : Rewritten). applied_along ms s cells) (applied_by ms r others false d))
      by false there e d =
          ap (λ (s : Rewritten). applied_along ms s others) (applied_by ms r cells false e)
          ∙ applied_by ms r others there d
          ∙ sym (by_second there d)
          ∙ sym (ap (λ (s : Rewritten). applied_along ms s cells) (applied_by ms r others there d)) where
            by_second : (b : Bool) → fits_along r.grid ms others ≡ b →
                applied_along ms (elim b [ true ↦ second | false ↦ r ]) cells ≡ elim b [ true ↦ second | false ↦ r ]
            by_second true d = applied_by ms second cells false (fits_beside r ms ms cells others apart ∙ e)
            by_second false d = applied_by ms r cells false e
