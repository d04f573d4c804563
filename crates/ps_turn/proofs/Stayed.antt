-- Whether Player has stayed, by the cells that had one and have none.
use Rattle.std.proofs.Common.{◌≡◌, ◌∙◌, ◌*◌, ◌+◌, ◌||◌, ◌&&◌, ℕ, Bool, true, false, cond, List, [], ◌∷◌, filter, refl}
use Rattle.std.proofs.Common.{ap, ap₂}
use Rattle.std.specs.Prelude.{not}
use Rattle.std.specs.List.{list_any, list_all, range_with_len}
use Rattle.ps_model.specs.names.Names.{Names}
use Rattle.ps_model.specs.board.Grid.{Grid, cell_count}
use Rattle.ps_model.specs.board.Turns.{has_player, player_cells, stayed}
use Rattle.ps_board.specs.ColumnSets.{columns_without}
use Rattle.ps_turn.specs.RowsOfCells.{columns_within, row_cells, row_left, has_player_at, is_left}
use Rattle.ps_turn.specs.States.{HaveSameSides}
use Rattle.ps_turn.proofs.RowsOfCells.{all_kept, within-without}

some_by : (names : Names) (after : Grid) (was : ℕ → Bool) (cell : ℕ) (cells : List ℕ) (here : Bool) →
    stayed names after (filter was cells) ≡ list_any was cells && list_all (has_player_at names after)
    (filter was cells) →
    stayed names after (cond here (cell ∷ filter was cells) (filter was cells))
    ≡ (here || list_any was cells) && list_all (has_player_at names after)
    (cond here (cell ∷ filter was cells) (filter was cells))
some_by names after was cell cells true e = refl
some_by names after was cell cells false e = e

some_if : (names : Names) (after : Grid) (was : ℕ → Bool) (cells : List ℕ) →
    stayed names after (filter was cells) ≡ list_any was cells && list_all (has_player_at names after)
    (filter was cells)
some_if names after was [] = refl
some_if names after was (cell ∷ cells) = some_by names after was cell cells (was cell) (some_if names after was cells)

-- there was a Player, and none has left its cell
pub stayed_by : (names : Names) (before after : Grid) →
    stayed names after (player_cells names before)
    ≡ list_any (has_player_at names before) (range_with_len 0 (cell_count before)) && not
    (list_any (is_left names before after) (range_with_len 0 (cell_count before)))
stayed_by names before after =
    let cells : List ℕ = range_with_len 0 (cell_count before) in
    some_if names after (has_player_at names before) cells
    ∙ ap (λ (all : Bool). list_any (has_player_at names before) cells && all)
    (all_kept (has_player_at names before) (has_player_at names after) cells)

-- the columns that are left in a row
pub rows_left : (names : Names) (before after : Grid) (row : ℕ) (columns others : List Bool) →
    HaveSameSides after before → columns ≡ row_cells (has_player names) before row →
    others ≡ row_cells (has_player names) after row → columns_without columns others ≡ row_left names before after row
rows_left names before after row columns others sides is are =
    ap₂ columns_without is (are ∙ ap₂ (λ (width height : ℕ).
    columns_within width (λ x. has_player_at names after (x * height + row))) sides.width sides.height)
    ∙ within-without before.width (λ x. has_player_at names before (x * before.height + row)) (λ x.
    has_player_at names after (x * before.height + row))
