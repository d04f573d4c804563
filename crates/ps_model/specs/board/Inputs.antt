-- What an input does before the rules of a turn: all motions are none, and then every object of Player gets the key's
-- motion.
use Rattle.std.specs.Prelude.{if◌then◌else◌, List, map}
use Rattle.ps_model.specs.declared.pieces.Direction.TheVariants.{Up as Upwards, Down as Downwards, Left as Leftwards}
use Rattle.ps_model.specs.declared.pieces.Direction.TheVariants.{Right as Rightwards}
use Rattle.ps_model.specs.declared.pieces.Motion.{Motion}
use Rattle.ps_model.specs.declared.pieces.Motion.TheVariants.{Still, Going, Acting}
use Rattle.ps_model.specs.declared.pieces.ObjectId.{ObjectId}
use Rattle.ps_model.specs.declared.pieces.Slot.{Slot}
use Rattle.ps_model.specs.declared.pieces.Slot.TheVariants.{Bare, Holds}
use Rattle.ps_model.specs.declared.play.Input.{Input}
use Rattle.ps_model.specs.declared.play.Input.TheVariants.{Up, Down, Left, Right, Action}
use Rattle.ps_model.specs.names.Names.{Names, is_among, players}
use Rattle.ps_model.specs.board.Grid.{Grid}

-- the motion that an input gives
abbrev pub motion_of : Input → Motion
motion_of Up = Going Upwards
motion_of Down = Going Downwards
motion_of Left = Going Leftwards
motion_of Right = Going Rightwards
motion_of Action = Acting

-- a slot whose object, if it is one of these, has the motion, and else is at rest
abbrev pub slot_with_motion : List ObjectId → Motion → Slot → Slot
slot_with_motion moved motion Bare = Bare
slot_with_motion moved motion (Holds object was) = Holds object (if is_among moved object then motion else Still)

-- the grid with a motion for each of these objects; all others are at rest
abbrev pub with_motion : List ObjectId → Motion → Grid → Grid
with_motion moved motion g = record g { cells = map (map (slot_with_motion moved motion)) g.cells }

-- the grid with an input: all motions are none, and then every object of Player gets the input's
abbrev pub with_input : Names → Input → Grid → Grid
with_input names input g = with_motion (players names) (motion_of input) g
