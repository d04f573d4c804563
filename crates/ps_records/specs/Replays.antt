-- What is so of a replay of a stream of keys.
use Rattle.std.specs.Prelude.{◌≡◌, ℕ, ◌+◌, ◌-◌, Bool, true, false, List, Option, Some, None, length}
use Rattle.ps_model.specs.declared.play.Ending.{Ending}
use Rattle.ps_model.specs.declared.play.Ending.TheVariants.{TheEnd, Quit, EndOfKeys}
use Rattle.ps_model.specs.board.Turns.{Script, script_at}
use Rattle.ps_model.specs.game.Games.{Game, game}
use Rattle.ps_model.specs.game.Outputs.{output}
use Rattle.ps_model.specs.session.Keys.{keys_of}
use Rattle.ps_records.specs.Courses.{course_of}
use Rattle.ps_records.specs.declared.replays.Replay.{Replay}

-- the run came to the end of the game
abbrev pub is_end : Ending → Bool
is_end TheEnd = true
is_end Quit = false
is_end EndOfKeys = false

abbrev pub is_won : Replay → Bool
is_won replay = is_end replay.ending

-- the number of the level that isn't won: that after all that are, where the keys lead to one
abbrev pub level_of : Replay → Option ℕ
level_of replay = elim (is_won replay) [
  | true ↦ None
  | false ↦ elim replay.in_level [ true ↦ Some (length replay.won.items + 1) | false ↦ None ]
]

-- it tells what comes of the keys of these bytes, in a run of the script: how the output ends, and the course of the
-- keys. Keys that are left were pressed in the level that isn't won, or come after the end of the game
pub record IsReplayIn (script : Script) (bytes : List ℕ) (replay : Replay) : Type 0 where
  pub ending : replay.ending ≡ (output script bytes).ending
  pub won : replay.won.items ≡ (course_of script (keys_of bytes)).won
  pub in_level : replay.in_level ≡ (course_of script (keys_of bytes)).in_level
  pub left : replay.left ≡ length (keys_of bytes) - (course_of script (keys_of bytes)).since

-- in a run of the text's game
pub record IsReplay (text bytes : List ℕ) (replay : Replay) : Type 0 where
  pub read : Game
  pub is : game text ≡ Some read
  pub so : IsReplayIn (script_at read 0) bytes replay
