-- Games that were read can be played.
use Rattle.std.proofs.Common.{◌≡◌, ◌<◌, ℕ, List, Some, arith}
use Rattle.std.specs.Prelude.{All}
use Rattle.ps_model.specs.names.Names.{object_count}
use Rattle.ps_model.specs.game.Games.{Game, game}
use Rattle.ps_laws.proofs.texts.BoundedNames.{game-bounded}
use Rattle.ps_laws.proofs.texts.ObjectsThere.{game-has}
use Rattle.ps_levels.specs.Sized.{IsSizedEntry}
use Rattle.ps_stage.specs.Playable.{ArePlayable}

pub game_playable : (text : List ℕ) (read : Game) → game text ≡ Some read → All (IsSizedEntry read.names) read.entries →
    ArePlayable read.names read.entries
game_playable text read is sized =
    let some : 0 < object_count read.names = (game-has text read is).0 in
    record { bounded = game-bounded text read is; some_object = omega (arith, some); sized = sized }
