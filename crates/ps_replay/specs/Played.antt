-- What is so of a replay of keys, by the sessions that they lead to.
use Rattle.std.specs.Prelude.{◌≡◌, ◌-◌, Option, Some, None, List, length}
use Rattle.ps_model.specs.declared.play.Ending.{Ending}
use Rattle.ps_model.specs.declared.play.Ending.TheVariants.{EndOfKeys}
use Rattle.ps_model.specs.declared.play.Key.{Key}
use Rattle.ps_model.specs.board.Turns.{Script}
use Rattle.ps_model.specs.game.Outputs.{ending_of}
use Rattle.ps_model.specs.session.Sessions.{Session}
use Rattle.ps_laws.specs.Fronts.{session_after}
use Rattle.ps_records.specs.Courses.{course_from}
use Rattle.ps_records.specs.declared.replays.Replay.{Replay}

-- how a run ends whose session ended so, or didn't
abbrev pub ending_or : Option Ending → Ending
ending_or (Some ending) = ending
ending_or None = EndOfKeys

-- it tells what comes of keys from a session on
pub record IsReplayOfKeys (script : Script) (session : Session) (keys : List Key) (replay : Replay) : Type 0 where
  pub ending : replay.ending ≡ ending_or (ending_of (session_after script session keys))
  pub won : replay.won.items ≡ (course_from script session keys).won
  pub in_level : replay.in_level ≡ (course_from script session keys).in_level
  pub left : replay.left ≡ length keys - (course_from script session keys).since
