-- All motions of a board, as a set of their places.
use Rattle.std.proofs.Common.{◌≡◌, ℕ, Bool, false, List, Some, arith}
use Rattle.ps_model.specs.declared.compiled.MotionTest.{MotionTest}
use Rattle.ps_board.specs.declared.one_word.TheConstants.{WORD_BITS}
use Rattle.ps_board.specs.ColumnSets.{column_at, columns_below}
use Rattle.ps_board.proofs.AllRows.{none_outside}
use Rattle.ps_program.specs.MotionSets.{motion_place}
use Rattle.ps_program.proofs.MotionSets.{place_low}

-- no motion that has a place is outside of them
pub no_motion_outside : (motions : List Bool) → motions ≡ columns_below WORD_BITS → (test : MotionTest) (place : ℕ) →
    motion_place test.layer.0 test.motion ≡ Some place → column_at motions place ≡ false → ⊥
no_motion_outside motions all test place is off =
    none_outside WORD_BITS motions (omega arith) all place
    (omega (arith, place_low test.layer.0 test.motion place is)) off
