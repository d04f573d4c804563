-- What masks ask about, parted into topics: each object has one, and so have the motions on each layer. Objects whose
-- topics are one are told apart no more; so there may be any number of objects.
use Rattle.std.specs.Prelude.{◌≡◌, ℕ, ◌+◌, ◌%◌, ◌<◌, Bool, false, true, List}
use Rattle.ps_model.specs.declared.limits.TheConstants.{SIDE_LIMIT}
use Rattle.ps_model.specs.declared.compiled.LayeredObject.{LayeredObject}
use Rattle.ps_model.specs.declared.compiled.MotionTest.{MotionTest}
use Rattle.ps_model.specs.board.Grid.{Grid, cell_at}
use Rattle.ps_model.specs.meaning.Compiled.{is_held_in, moves_as_asked}
use Rattle.ps_board.specs.ColumnSets.{column_at}
use Rattle.ps_match.specs.declared.topics.TheConstants.{MOTION_TOPICS, OBJECT_TOPICS}

-- the topic of an object
abbrev pub object_topic : ℕ → ℕ
object_topic object = object % OBJECT_TOPICS

-- the topic of the motions on a layer
abbrev pub motion_topic : ℕ → ℕ
motion_topic layer = OBJECT_TOPICS + layer % MOTION_TOPICS

-- a set has each topic of another one
abbrev pub HasTopicsOf : List Bool → List Bool → Type 0
HasTopicsOf topics more = (each : ℕ) → each < SIDE_LIMIT → column_at topics each ≡ true → column_at more each ≡ true

-- on both grids the same cells have the object on its layer
abbrev pub HoldAlike : Grid → Grid → LayeredObject → Type 0
HoldAlike g h object = (cell : ℕ) → is_held_in (cell_at g cell) object ≡ is_held_in (cell_at h cell) object

-- on both grids the same cells have the motion that is asked for
abbrev pub MoveAlike : Grid → Grid → MotionTest → Type 0
MoveAlike g h test = (cell : ℕ) → moves_as_asked (cell_at g cell) test ≡ moves_as_asked (cell_at h cell) test

-- two grids differ in nothing whose topic isn't in a set
pub record DifferOnlyAbout (topics : List Bool) (g h : Grid) : Type 0 where
  pub objects : (object : LayeredObject) → column_at topics (object_topic (object.object).0) ≡ false →
      HoldAlike g h object
  pub motions : (test : MotionTest) → column_at topics (motion_topic (test.layer).0) ≡ false → MoveAlike g h test
