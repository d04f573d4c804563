-- How far the latest board of the history is behind the board of a level.
use Rattle.std.specs.Prelude.{◌-◌, Bool, IfSome, List, Option, Some, None, length, slice_get}
use Rattle.ps_model.specs.board.Grid.{Grid}
use Rattle.ps_board.specs.ColumnSets.{either_columns}
use Rattle.ps_stage.specs.Standings.{Standing}
use Rattle.ps_stage.specs.Touched.{IsTouchedAt}
use Rattle.ps_stage.specs.declared.locations.HistoryChange.{HistoryChange}
use Rattle.ps_stage.specs.declared.locations.HistoryChange.TheVariants.{Keeps, Adds, Clears}
use Rattle.ps_stage.specs.declared.locations.Location.{Location}

-- the latest grid of a history, if there is one
abbrev pub latest_of : List Grid → Option Grid
latest_of grids = slice_get grids (length grids - 1)

-- outside of these rows, if some are known, the level's board shows the same as the latest one of the history
abbrev pub IsBehind : List Grid → Location Standing → Option (List Bool) → Type 0
IsBehind grids location rows =
    IfSome rows (λ rows. IfSome (latest_of grids) (λ latest. IsTouchedAt rows latest location))

-- outside of these rows, if some are known, the next board does: the board before has entered the history, or hasn't
abbrev pub behind_next : Option (List Bool) → HistoryChange → Option (List Bool) → Option (List Bool)
behind_next (Some behind) Keeps (Some rows) = Some (either_columns behind rows)
behind_next (Some behind) Keeps None = None
behind_next None Keeps rows = None
behind_next behind Adds rows = rows
behind_next behind Clears rows = None
