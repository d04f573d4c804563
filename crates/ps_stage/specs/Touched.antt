-- Rows outside of which a level's board shows the same objects as the one before.
use Rattle.std.specs.Prelude.{◌≡◌, ◌≤◌, ⊤, Bool, IfSome, List, None}
use Rattle.ps_model.specs.declared.limits.TheConstants.{SIDE_LIMIT}
use Rattle.ps_model.specs.board.Grid.{Grid}
use Rattle.ps_board.specs.Rows.{DifferOnlyOn}
use Rattle.ps_turn.specs.States.{HaveSameSides}
use Rattle.ps_stage.specs.Standings.{Standing}
use Rattle.ps_turn.specs.declared.outcomes.Turned.{Turned}
use Rattle.ps_turn.specs.declared.outcomes.Turned.TheVariants.{Blocked, Restarted, Done}
use Rattle.ps_stage.specs.declared.levels.AfterTurn.{AfterTurn}
use Rattle.ps_stage.specs.declared.locations.Change.{Change}
use Rattle.ps_stage.specs.declared.locations.Change.TheVariants.{Stays, Undoes, Goes}
use Rattle.ps_stage.specs.declared.locations.Location.{Location}
use Rattle.ps_stage.specs.declared.locations.Location.TheVariants.{Playing, Waiting, AtMessage, Ended}

-- two grids have the same sides, of as many rows as boards have at most, and show the same objects outside of these
pub record AreTouched (rows : List Bool) (before now : Grid) : Type 0 where
  pub low : before.height ≤ SIDE_LIMIT
  pub sides : HaveSameSides before now
  pub only : DifferOnlyOn rows before now

-- so does the board of the level there, if there is one
abbrev pub IsTouchedAt : List Bool → Grid → Location Standing → Type 0
IsTouchedAt rows before (Playing level) = AreTouched rows before level.board
IsTouchedAt rows before (Waiting level pending) = AreTouched rows before level.board
IsTouchedAt rows before (AtMessage entry) = ⊤
IsTouchedAt rows before (Ended ending) = ⊤

-- the rows that come with a turn that was tried are such
abbrev pub IsTouchedBy : Grid → Turned (AfterTurn Standing (List Bool)) → Type 0
IsTouchedBy before (Blocked message) = ⊤
IsTouchedBy before (Restarted message) = ⊤
IsTouchedBy before (Done next) = AreTouched next.rows before next.level.board

-- those that come with a change are such, if some do
abbrev pub GoesFrom : Grid → Change Standing (List Bool) → Type 0
GoesFrom before (Stays pending) = ⊤
GoesFrom before (Undoes level) = ⊤
GoesFrom before (Goes location history_change rows) = IfSome rows (λ rows. IsTouchedAt rows before location)

-- none come with it
abbrev pub GoesAnew : Change Standing (List Bool) → Type 0
GoesAnew (Stays pending) = ⊤
GoesAnew (Undoes level) = ⊤
GoesAnew (Goes location history_change rows) = rows ≡ None
