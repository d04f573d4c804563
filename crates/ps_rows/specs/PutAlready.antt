-- Writes that put objects where these stand.
use Rattle.std.specs.Prelude.{◌≡◌, ◌<◌, ◌*◌, ℕ, Bool, true, Some}
use Rattle.ps_model.specs.declared.pieces.Motion.{Motion}
use Rattle.ps_model.specs.declared.pieces.ObjectId.{ObjectId}
use Rattle.ps_model.specs.declared.compiled.LayeredObject.{LayeredObject}
use Rattle.ps_model.specs.declared.compiled.LayerWrite.{LayerWrite}
use Rattle.ps_model.specs.declared.compiled.MotionTest.{MotionTest}
use Rattle.ps_model.specs.declared.compiled.ObjectWrite.TheVariants.{Put}
use Rattle.ps_model.specs.board.Grid.{Grid, cell_at}
use Rattle.ps_rows.specs.RowTests.{held, moved}

-- an object, and a motion, on the layer of a write
abbrev pub on_its_layer : ObjectId → LayerWrite → LayeredObject
on_its_layer object write = record { object = object; layer = write.layer }

abbrev pub of_its_layer : Motion → LayerWrite → MotionTest
of_its_layer motion write = record { layer = write.layer; motion = motion }

-- the motion that a layer's write gives, if it gives one, is that of the layer in each chosen cell
pub record MovesAlready (g : Grid) (chosen : ℕ → Bool) (write : LayerWrite) : Type 0 where
  pub at : (motion : Motion) (cell : ℕ) → write.motion ≡ Some motion → cell < g.width * g.height →
      chosen cell ≡ true → moved (of_its_layer motion write) (cell_at g cell) ≡ true

-- and what it puts stands there
pub record IsPutAlready (g : Grid) (chosen : ℕ → Bool) (write : LayerWrite) : Type 0 where
  pub object : ObjectId
  pub puts : write.object ≡ Put object
  pub there : (cell : ℕ) → cell < g.width * g.height → chosen cell ≡ true →
      held (on_its_layer object write) (cell_at g cell) ≡ true
  pub moves : MovesAlready g chosen write
