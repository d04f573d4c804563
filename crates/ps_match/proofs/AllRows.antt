-- All rows of a board, as a set of their numbers.
use Rattle.std.proofs.Common.{◌≡◌, ℕ, Bool, List, arith}
use Rattle.ps_model.specs.declared.compiled.LayeredObject.{LayeredObject}
use Rattle.ps_model.specs.declared.compiled.MotionTest.{MotionTest}
use Rattle.ps_model.specs.board.Grid.{Grid, IsGrid}
use Rattle.ps_board.specs.ColumnSets.{columns_below}
use Rattle.ps_board.proofs.AllRows.{none_outside}
use Rattle.ps_match.specs.Nowhere.{HasMovesIn, HasRowsIn}

-- no row of the board is outside of them
pub all_rows : (g : Grid) (object : LayeredObject) (height : ℕ) (rows : List Bool) → IsGrid g → height ≡ g.height →
    rows ≡ columns_below height → HasRowsIn g object rows
all_rows g object height rows shape same all = λ row under none.
    absurd (none_outside height rows (omega (arith, same, shape.rows)) all row (omega (arith, under, same)) none)

pub all_moving : (g : Grid) (test : MotionTest) (height : ℕ) (rows : List Bool) → IsGrid g → height ≡ g.height →
    rows ≡ columns_below height → HasMovesIn g test rows
all_moving g test height rows shape same all = λ row under none.
    absurd (none_outside height rows (omega (arith, same, shape.rows)) all row (omega (arith, under, same)) none)
