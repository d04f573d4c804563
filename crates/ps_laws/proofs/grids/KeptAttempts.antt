-- An attempt of a rule whose cells keep the cells of a game keeps the grids of the game.
use Rattle.std.proofs.Common.{◌≡◌, ℕ, false, Option, Some, None, List, [], ◌∷◌, fold, refl, ◌∙◌}
use Rattle.std.specs.Prelude.{All, slice_get}
use Rattle.std.proofs.lemmas.List.{length-set}
use Rattle.std.proofs.lemmas.List.Elements.{All-head, All-tail, All-set}
use Rattle.ps_model.specs.declared.pieces.Slot.{Slot}
use Rattle.ps_model.specs.names.Names.{Names}
use Rattle.ps_model.specs.board.GameGrids.{IsCellOf, IsGridOf}
use Rattle.ps_model.specs.meaning.RuleMeanings.{CellMeaning, RuleMeaning}
use Rattle.ps_model.specs.board.Places.{cells_in}
use Rattle.ps_model.specs.board.Attempts.{State, Rewritten, with_cell, rewritten_cell, rewritten_along, all_fit}
use Rattle.ps_model.specs.board.Attempts.{rewritten_rows, applied, combinations_on, attempt}
use Rattle.ps_laws.specs.KeptGrids.{KeepsCells, Keeps}
use Rattle.ps_laws.proofs.common.Everywhere.{either_way, All-slice_get, All-joined}

-- the cells of a row
pub cells_in-keep : (names : Names) (row : List (List CellMeaning)) → All (All (KeepsCells names)) row →
    All (KeepsCells names) (cells_in row)
cells_in-keep names row all = All-joined (KeepsCells names) row all

with_cell-keeps : (names : Names) (r : Rewritten) (number : ℕ) (old new : List Slot) → IsCellOf names new →
    IsGridOf names r.grid → IsGridOf names (with_cell r number old new).grid
with_cell-keeps names r number old new one h = record {
  layers = h.layers;
  cells = All-set (IsCellOf names) (r.grid).cells number new one h.cells;
  shape = length-set (r.grid).cells number new ∙ h.shape;
}

rewritten_cell-keeps : (names : Names) (r : Rewritten) (meaning : CellMeaning) (number : ℕ)
    (found : Option (List Slot)) → slice_get (r.grid).cells number ≡ found →
    KeepsCells names meaning → IsGridOf names r.grid → IsGridOf names (rewritten_cell r meaning number found).grid
rewritten_cell-keeps names r meaning number None e keeps h = h
rewritten_cell-keeps names r meaning number (Some cell) e keeps h =
    with_cell-keeps names r number cell (meaning.rewritten cell)
    (keeps cell (All-slice_get (IsCellOf names) (r.grid).cells number cell h.cells e)) h

rewritten_along-keeps : (names : Names) (r : Rewritten) (meanings : List CellMeaning) (cells : List ℕ) →
    All (KeepsCells names) meanings → IsGridOf names r.grid →
    IsGridOf names (rewritten_along r meanings cells).grid
rewritten_along-keeps names r [] cells all h = h
rewritten_along-keeps names r (meaning ∷ meanings) [] all h = h
rewritten_along-keeps names r (meaning ∷ meanings) (cell ∷ cells) all h =
    rewritten_along-keeps names (rewritten_cell r meaning cell (slice_get (r.grid).cells cell)) meanings cells
    (All-tail (KeepsCells names) meaning meanings all)
    (rewritten_cell-keeps names r meaning cell (slice_get (r.grid).cells cell) refl
    (All-head (KeepsCells names) meaning meanings all) h)

rewritten_rows-keeps : (names : Names) (r : Rewritten) (rows : List (List (List CellMeaning))) (places : List (List ℕ))
    → All (All (All (KeepsCells names))) rows → IsGridOf names r.grid →
    IsGridOf names (rewritten_rows r rows places).grid
rewritten_rows-keeps names r [] places all h = h
rewritten_rows-keeps names r (row ∷ rows) [] all h = h
rewritten_rows-keeps names r (row ∷ rows) (place ∷ places) all h =
    rewritten_rows-keeps names (rewritten_along r (cells_in row) place) rows places
    (All-tail (All (All (KeepsCells names))) row rows all)
    (rewritten_along-keeps names r (cells_in row) place
    (cells_in-keep names row (All-head (All (All (KeepsCells names))) row rows all)) h)

applied-keeps : (names : Names) (rows : List (List (List CellMeaning))) (r : Rewritten) (combination : List (List ℕ)) →
    All (All (All (KeepsCells names))) rows → IsGridOf names r.grid →
    IsGridOf names (applied rows r combination).grid
applied-keeps names rows r combination all h =
    either_way (λ (x : Rewritten). IsGridOf names x.grid) (all_fit r.grid rows combination)
    (rewritten_rows r rows combination) r
    (rewritten_rows-keeps names r rows combination all h) h

all_applied-keeps : (names : Names) (rows : List (List (List CellMeaning))) (r : Rewritten)
    (combinations : List (List (List ℕ))) → All (All (All (KeepsCells names))) rows →
    IsGridOf names r.grid → IsGridOf names (fold (applied rows) r combinations).grid
all_applied-keeps names rows r [] all h = h
all_applied-keeps names rows r (combination ∷ others) all h =
    all_applied-keeps names rows (applied rows r combination) others all (applied-keeps names rows r combination all h)

pub attempt-keeps : (names : Names) (rule : RuleMeaning) (state : State) → Keeps names rule →
    IsGridOf names state.grid → IsGridOf names (attempt rule state).state.grid
attempt-keeps names rule state all h =
    let start : Rewritten = record { grid = state.grid; changed = false } in
    either_way (λ (x : Rewritten). IsGridOf names x.grid) rule.rewrites
    (fold (applied rule.rows) start (combinations_on state.grid rule)) start
    (all_applied-keeps names rule.rows start (combinations_on state.grid rule) all h) h
