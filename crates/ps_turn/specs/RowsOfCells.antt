-- Rows of a grid, cell by cell: the columns whose cells pass a test. No column beyond the width is in such a set.
use Rattle.std.specs.Prelude.{◌≡◌, ℕ, ◌+◌, ◌*◌, ◌<◌, nat_lt, Bool, false, ◌&&◌, not, Option, List}
use Rattle.std.specs.List.{list_all}
use Rattle.ps_model.specs.declared.pieces.ObjectId.{ObjectId}
use Rattle.ps_model.specs.declared.pieces.Slot.{Slot}
use Rattle.ps_model.specs.names.Names.{Meaning, Names, is_among}
use Rattle.ps_model.specs.board.Grid.{Grid, cell_at}
use Rattle.ps_model.specs.board.Turns.{has_player}
use Rattle.ps_model.specs.board.Winning.{is_in, is_place}
use Rattle.ps_model.specs.session.Frames.{objects_in}
use Rattle.ps_board.specs.ColumnSets.{column_at, columns_where}

-- of `width` columns those of which something holds
abbrev pub columns_within : ℕ → (ℕ → Bool) → List Bool
columns_within width holds = columns_where (λ x. nat_lt x width && holds x)

-- the columns of a row whose cells pass a test
abbrev pub row_cells : (List Slot → Bool) → Grid → ℕ → List Bool
row_cells passes g row = columns_within g.width (λ x. passes (cell_at g (x * g.height + row)))

-- on the rows whose numbers aren't in a set no cell passes a test
abbrev pub NonePassOutside : (List Slot → Bool) → Grid → List Bool → Type 0
NonePassOutside passes g rows = (row : ℕ) → row < g.height → column_at rows row ≡ false → (x : ℕ) → x < g.width →
    passes (cell_at g (x * g.height + row)) ≡ false

-- each of these objects is in the cell
abbrev pub has_each : List ObjectId → List Slot → Bool
has_each objects cell = list_all (is_among (objects_in cell)) objects

-- the cell has X, and is one of the places that are asked for; or it has X, and is none of them
abbrev pub is_met : Meaning → Option Meaning → List Slot → Bool
is_met subject place cell = is_in subject cell && is_place place cell

abbrev pub is_missed : Meaning → Option Meaning → List Slot → Bool
is_missed subject place cell = is_in subject cell && not (is_place place cell)

-- an object of Player stands in the cell of a number; or stood there, and stands there no more
abbrev pub has_player_at : Names → Grid → ℕ → Bool
has_player_at names g cell = has_player names (cell_at g cell)

abbrev pub is_left : Names → Grid → Grid → ℕ → Bool
is_left names before after cell = has_player_at names before cell && not (has_player_at names after cell)

-- the columns of a row whose cells an object of Player has left
abbrev pub row_left : Names → Grid → Grid → ℕ → List Bool
row_left names before after row = columns_within before.width (λ x.
    is_left names before after (x * before.height + row))
