-- Objects that are nowhere on a board, or on no cell of a row, and motions that no cell of a row has.
use Rattle.std.specs.Prelude.{◌≡◌, ◌<◌, ◌+◌, ◌*◌, ℕ, Bool, false, List, Some}
use Rattle.ps_model.specs.declared.compiled.LayeredObject.{LayeredObject}
use Rattle.ps_model.specs.board.Grid.{Grid, cell_at}
use Rattle.ps_model.specs.declared.compiled.MotionTest.{MotionTest}
use Rattle.ps_model.specs.meaning.Compiled.{is_held_in, moves_as_asked}
use Rattle.ps_board.specs.ColumnSets.{column_at}
use Rattle.ps_program.specs.MotionSets.{motion_place}

-- no cell of the grid has the object on its layer
abbrev pub IsNowhere : Grid → LayeredObject → Type 0
IsNowhere g object = (cell : ℕ) → is_held_in (cell_at g cell) object ≡ false

-- no cell of that row of the grid has the object on its layer
abbrev pub IsNotOnRow : Grid → LayeredObject → ℕ → Type 0
IsNotOnRow g object row = (x : ℕ) → is_held_in (cell_at g (x * g.height + row)) object ≡ false

-- the rows of the grid that aren't in a set don't have the object
abbrev pub HasRowsIn : Grid → LayeredObject → List Bool → Type 0
HasRowsIn g object rows = (row : ℕ) → row < g.height → column_at rows row ≡ false → IsNotOnRow g object row

-- no cell of that row of the grid has the motion that is asked for
abbrev pub NoneMovesOnRow : Grid → MotionTest → ℕ → Type 0
NoneMovesOnRow g test row = (x : ℕ) → x < g.width → moves_as_asked (cell_at g (x * g.height + row)) test ≡ false

-- no cell of the grid has that motion
abbrev pub MovesNowhere : Grid → MotionTest → Type 0
MovesNowhere g test = (row : ℕ) → row < g.height → NoneMovesOnRow g test row

-- no cell of the grid has a motion whose place isn't in a set
abbrev pub HasMotionsIn : Grid → List Bool → Type 0
HasMotionsIn g motions = (test : MotionTest) (place : ℕ) → motion_place test.layer.0 test.motion ≡ Some place →
    column_at motions place ≡ false → MovesNowhere g test

-- the rows of the grid that aren't in a set have no such cell
abbrev pub HasMovesIn : Grid → MotionTest → List Bool → Type 0
HasMovesIn g test rows = (row : ℕ) → row < g.height → column_at rows row ≡ false → NoneMovesOnRow g test row
