-- Attempts of rules that are alike are equal, and keep the grid one of the game.
use Rattle.std.proofs.Common.{◌≡◌, ℕ, Bool, true, false, Option, Some, None, List, [], ◌∷◌, fold, IfSome, slice_get}
use Rattle.std.proofs.Common.{refl, ◌∙◌, ap, ap₂}
use Rattle.std.specs.List.{AllZip}
use Rattle.ps_model.specs.declared.pieces.Slot.{Slot}
use Rattle.ps_model.specs.board.Grid.{Grid}
use Rattle.ps_model.specs.names.Names.{Names}
use Rattle.ps_model.specs.rules.SourceRules.{Commands}
use Rattle.ps_model.specs.board.GameGrids.{IsCellOf, IsGridOf}
use Rattle.ps_model.specs.meaning.RuleMeanings.{CellMeaning, RuleMeaning}
use Rattle.ps_model.specs.board.Places.{cells_in}
use Rattle.ps_model.specs.board.Attempts.{State, Result, Rewritten, with_cell, rewritten_cell, rewritten_along, all_fit}
use Rattle.ps_model.specs.board.Attempts.{rewritten_rows, applied, queued, queue_after, all_applied, attempt_by}
use Rattle.ps_model.specs.board.Attempts.{combinations_on, attempt}
use Rattle.ps_laws.specs.EqualMeanings.{AgreeOn, SameRule, EqualResults}
use Rattle.ps_laws.proofs.grids.GameCells.{IsCellOf-read, IsGridOf-put}
use Rattle.ps_laws.proofs.common.Zipped.{AllZip-joined}
use Rattle.ps_laws.proofs.common.EitherWay.{kept_either}
use Rattle.ps_laws.proofs.alike.EqualPlaces.{combinations_on-same, all_fit-same}

-- what two rewritings come to is equal, and a grid of the game
pub record EqualRewritten (names : Names) (a b : Rewritten) : Type 0 where
  pub equal : a ≡ b
  pub grid : IsGridOf names a.grid

cell-same : (names : Names) (written : Bool) → written ≡ true → (a b : CellMeaning) → AgreeOn names written a b →
    (r : Rewritten) → IsGridOf names r.grid → (number : ℕ) (cell : Option (List Slot)) → IfSome cell (IsCellOf names) →
    EqualRewritten names (rewritten_cell r a number cell) (rewritten_cell r b number cell)
cell-same names written does a b h r shape number None fine = record { equal = refl; grid = shape }
cell-same names written does a b h r shape number (Some cell) fine = record {
  equal = ap (with_cell r number cell) (h.writes does cell fine);
  grid = IsGridOf-put names r.grid shape number (a.rewritten cell) (h.keeps does cell fine);
}

-- the cells of a row
along-same : (names : Names) (written : Bool) → written ≡ true → (xs ys : List CellMeaning) →
    AllZip (AgreeOn names written) xs ys → (r : Rewritten) → IsGridOf names r.grid → (cells : List ℕ) →
    EqualRewritten names (rewritten_along r xs cells) (rewritten_along r ys cells)
along-same names written does [] [] h r shape cells = record { equal = refl; grid = shape }
along-same names written does [] (y ∷ ys) h r shape cells = absurd h
along-same names written does (x ∷ xs) [] h r shape cells = absurd h
along-same names written does (x ∷ xs) (y ∷ ys) h r shape [] = record { equal = refl; grid = shape }
along-same names written does (x ∷ xs) (y ∷ ys) h r shape (cell ∷ cells) =
    let found : Option (List Slot) = slice_get r.grid.cells cell in
    let one = cell-same names written does x y h.0 r shape cell found (IsCellOf-read names r.grid shape cell) in
    let more = along-same names written does xs ys h.1 (rewritten_cell r x cell found) one.grid cells in
    record { equal = more.equal ∙ ap (λ (made : Rewritten). rewritten_along made ys cells) one.equal; grid = more.grid }

-- all rows
rows-same : (names : Names) (written : Bool) → written ≡ true → (xs ys : List (List (List CellMeaning))) →
    AllZip (AllZip (AllZip (AgreeOn names written))) xs ys → (r : Rewritten) → IsGridOf names r.grid →
    (places : List (List ℕ)) →
    EqualRewritten names (rewritten_rows r xs places) (rewritten_rows r ys places)
rows-same names written does [] [] h r shape places = record { equal = refl; grid = shape }
rows-same names written does [] (y ∷ ys) h r shape places = absurd h
rows-same names written does (x ∷ xs) [] h r shape places = absurd h
rows-same names written does (x ∷ xs) (y ∷ ys) h r shape [] = record { equal = refl; grid = shape }
rows-same names written does (x ∷ xs) (y ∷ ys) h r shape (place ∷ places) =
    let one = along-same names written does (cells_in x) (cells_in y) (AllZip-joined (AgreeOn names written) x y h.0) r
    shape place in
    let more = rows-same names written does xs ys h.1 (rewritten_along r (cells_in x) place) one.grid places in
    record { equal = more.equal ∙ ap (λ (made : Rewritten). rewritten_rows made ys places) one.equal; grid = more.grid }

-- two rewritings, or none
chosen-same : (names : Names) (fits fits_too : Bool) → fits ≡ fits_too → (r a b : Rewritten) → IsGridOf names r.grid →
    EqualRewritten names a b →
    EqualRewritten names (elim fits [ true ↦ a | false ↦ r ]) (elim fits_too [ true ↦ b | false ↦ r ])
chosen-same names fits fits_too e r a b shape h = record {
  equal = ap₂ (λ (test : Bool) (made : Rewritten). elim test [ true ↦ made | false ↦ r ]) e h.equal;
  grid = kept_either (λ (made : Rewritten). IsGridOf names made.grid) a r h.grid shape fits;
}

-- one combination
applied-same : (names : Names) (written : Bool) → written ≡ true → (xs ys : List (List (List CellMeaning))) →
    AllZip (AllZip (AllZip (AgreeOn names written))) xs ys → (r : Rewritten) → IsGridOf names r.grid →
    (combination : List (List ℕ)) →
    EqualRewritten names (applied xs r combination) (applied ys r combination)
applied-same names written does xs ys h r shape combination =
    chosen-same names (all_fit r.grid xs combination) (all_fit r.grid ys combination)
    (all_fit-same names written r.grid shape xs ys h combination)
    r (rewritten_rows r xs combination) (rewritten_rows r ys combination) shape
    (rows-same names written does xs ys h r shape combination)

-- all combinations in order
folded-same : (names : Names) (written : Bool) → written ≡ true → (xs ys : List (List (List CellMeaning))) →
    AllZip (AllZip (AllZip (AgreeOn names written))) xs ys → (r : Rewritten) → IsGridOf names r.grid →
    (combinations : List (List (List ℕ))) →
    EqualRewritten names (fold (applied xs) r combinations) (fold (applied ys) r combinations)
folded-same names written does xs ys h r shape [] = record { equal = refl; grid = shape }
folded-same names written does xs ys h r shape (combination ∷ others) =
    let one = applied-same names written does xs ys h r shape combination in
    let more = folded-same names written does xs ys h (applied xs r combination) one.grid others in
    record { equal = more.equal ∙ ap (λ (made : Rewritten). fold (applied ys) made others) one.equal; grid = more.grid }

-- what two rules that both rewrite cells come to, and what two come to that don't
chosen_rules-same : (names : Names) (written written_too : Bool) → written ≡ written_too → (start a b : Rewritten) →
    IsGridOf names start.grid →
    (written ≡ true → EqualRewritten names a b) →
    EqualRewritten names (elim written [ true ↦ a | false ↦ start ]) (elim written_too [ true ↦ b | false ↦ start ])
chosen_rules-same names true true e start a b shape h = h refl
chosen_rules-same names true false e start a b shape h = absurd (cc e)
chosen_rules-same names false true e start a b shape h = absurd (cc e)
chosen_rules-same names false false e start a b shape h = record { equal = refl; grid = shape }

all_applied-same : (names : Names) (a b : RuleMeaning) → SameRule names a b → (g : Grid) → IsGridOf names g →
    (combinations : List (List (List ℕ))) →
    EqualRewritten names (all_applied a g combinations) (all_applied b g combinations)
all_applied-same names a b h g shape combinations =
    let start : Rewritten = record { grid = g; changed = false } in
    chosen_rules-same names a.rewrites b.rewrites h.rewrites start (fold (applied a.rows) start combinations)
    (fold (applied b.rows) start combinations)
    shape (λ does. folded-same names a.rewrites does a.rows b.rows h.rows start shape combinations)

queue_after-same : (a b : RuleMeaning) → a.commands ≡ b.commands →
    (queue : Commands) (combinations : List (List (List ℕ))) →
    queue_after queue a combinations ≡ queue_after queue b combinations
queue_after-same a b e queue [] = refl
queue_after-same a b e queue (combination ∷ others) = ap (queued queue) e

-- the attempts of two rules over the same combinations
attempt_by-same : (names : Names) (a b : RuleMeaning) → SameRule names a b → (state : State) →
    IsGridOf names state.grid → (combinations : List (List (List ℕ))) →
    EqualResults names (attempt_by a state combinations) (attempt_by b state combinations)
attempt_by-same names a b h state shape combinations =
    let made = all_applied-same names a b h state.grid shape combinations in
    record {
      equal = ap₂ (λ (r : Rewritten) (queue : Commands). let result : Result =
          record { state = record { grid = r.grid; queue = queue }; changed = r.changed } in result)
          made.equal (queue_after-same a b h.commands state.queue combinations);
      grid = made.grid;
    }

-- the attempts of two rules
pub attempt-same : (names : Names) (a b : RuleMeaning) → SameRule names a b → (state : State) →
    IsGridOf names state.grid → EqualResults names (attempt a state) (attempt b state)
attempt-same names a b h state shape =
    let by = attempt_by-same names a b h state shape (combinations_on state.grid a) in
    record {
      equal = by.equal ∙ ap (attempt_by b state) (combinations_on-same names state.grid shape a b h);
      grid =
          by.grid;
    }
