-- The boards of an undo history, and the grids that they show.
use Rattle.std.proofs.Common.{◌≡◌, ◌∙◌, ℕ, ◌-◌, Option, List, [], ◌∷◌, ◌++◌, length, map, take, drop, sym, ap, arith}
use Rattle.std.proofs.lemmas.List.{drop-map, length-map}
use Rattle.std.proofs.lemmas.List.Elements.{All-drop, All-nil, All-push, All-same, All-take}
use Rattle.std.specs.List.{take-map}
use Rattle.std.proofs.lemmas.Grind.{common_steps}
use Rattle.ps_board.specs.Histories.{BoardShown, boards_before, boards_kept}
use Rattle.ps_model.specs.board.Grid.{Grid}
use Rattle.ps_model.specs.declared.limits.TheConstants.{HISTORY_LIMIT}
use Rattle.ps_model.specs.session.Sessions.{kept}
use Rattle.ps_session.specs.Histories.{AreOnTable, grids_of}

map-last : {X : Type 0} (f : X → Grid) (n : ℕ) (boards : List X) (board : X) →
    map f (drop (length (boards ++ board ∷ []) - n) (boards ++ board ∷ [])) ≡ drop
    (length (map f boards ++ f board ∷ []) - n) (map f boards ++ f board ∷ [])
map-last f n boards board = grind (arith, common_steps, drop-map)

-- what is kept of the boards shows what is kept of the grids
pub grids-kept : (boards : List BoardShown) (board : BoardShown) →
    grids_of (boards_kept (boards ++ board ∷ [])) ≡ kept (grids_of boards ++ board.grid ∷ [])
grids-kept boards board = map-last (λ shown. shown.grid) HISTORY_LIMIT boards board

-- the boards before the latest show the grids before the latest
pub grids-before : (boards : List BoardShown) →
    grids_of (boards_before boards) ≡ take (length (grids_of boards) - 1) (grids_of boards)
grids-before boards =
    sym (ap (λ (n : ℕ). take (n - 1) (grids_of boards)) (length-map boards (λ shown. shown.grid))
    ∙ take-map (λ shown. shown.grid) (length boards - 1) boards)

-- both have their table
pub kept_on_table : (table : Option (List ℕ)) (boards : List BoardShown) (board : BoardShown) →
    AreOnTable table boards → board.table ≡ table →
    AreOnTable table (boards_kept (boards ++ board ∷ []))
kept_on_table table boards board on own =
    All-drop (λ shown. shown.table ≡ table) (length (boards ++ board ∷ []) - HISTORY_LIMIT) (boards ++ board ∷ [])
    (All-push (λ shown. shown.table ≡ table) boards board on own)

pub before_on_table : (table : Option (List ℕ)) (boards : List BoardShown) → AreOnTable table boards →
    AreOnTable table (boards_before boards)
before_on_table table boards on = All-take (λ shown. shown.table ≡ table) (length boards - 1) boards on

pub none_on_table : (table : Option (List ℕ)) (boards : List BoardShown) → boards ≡ [] → AreOnTable table boards
none_on_table table boards none =
    All-same (λ shown. shown.table ≡ table) boards [] none (All-nil (λ shown. shown.table ≡ table))
