-- What follows turns of the code, as spots of the definitions.
use Rattle.std.specs.Prelude.{Option, Some, None}
use Rattle.ps_model.specs.session.Sessions as model
use Rattle.ps_model.specs.session.Solving.{Spot}
use Rattle.ps_trial.specs.declared.told.Pending.{Pending}
use Rattle.ps_trial.specs.declared.told.Pending.TheVariants.{Nothing, LevelDone, KeyAgain, StartAgain}
use Rattle.ps_trial.specs.declared.told.Came.{Came}
use Rattle.ps_trial.specs.declared.told.Came.TheVariants.{Past, Stays}
use Rattle.ps_trial.specs.declared.told.Told.{Told}
use Rattle.ps_trial.specs.declared.told.Told.TheVariants.{Ends, GoesOn}
use Rattle.ps_trial.specs.declared.trial.Pressed as pressed
use Rattle.ps_trial.specs.declared.trial.Pressed.TheVariants as pressed_variants
use Rattle.ps_trial.specs.SilentStarts.{Boards, spot_with}

-- what a message goes on with
abbrev pub pending_shown : Pending → model.Pending
pending_shown Nothing = model.Nothing
pending_shown LevelDone = model.LevelDone
pending_shown (KeyAgain left) = model.KeyAgain left
pending_shown (StartAgain left) = model.StartAgain left

-- where one waits
abbrev pub waits_shown : Option Pending → Option model.Pending
waits_shown None = None
waits_shown (Some pending) = Some (pending_shown pending)

-- the spot of boards to which the turns of an input have come, if they stay in the level
abbrev pub came_shown : Came → Boards → Option Spot
came_shown Past boards = None
came_shown (Stays waits) boards = Some (spot_with boards (waits_shown waits))

-- a turn of a start after which the turns end, or go on
abbrev pub start_shown : Told (Option Pending) → Boards → (Boards → Spot) → Spot
start_shown (Ends waits) boards turns = spot_with boards (waits_shown waits)
start_shown GoesOn boards turns = turns boards

-- a turn of a key after which they end, or go on
abbrev pub key_shown : Told Came → Boards → (Boards → Option Spot) → Option Spot
key_shown (Ends came) boards turns = came_shown came boards
key_shown GoesOn boards turns = turns boards

-- the spot that an input leads to: the one that it was tried from, none, or that of the boards to which its turns came
abbrev pub pressed_shown : pressed.Pressed → Spot → Boards → Option Spot
pressed_shown pressed_variants.Same here there = Some here
pressed_shown pressed_variants.Past here there = None
pressed_shown (pressed_variants.To waits) here there = Some (spot_with there (waits_shown waits))
