use Rattle.std.proofs.Common.{◌≡◌, take}
use Rattle.ps_laws.specs.Fronts.{session_after}
use Rattle.ps_records.specs.Courses.{course_by, place_after}
use Rattle.ps_run.specs.GamesInPlay.{script_in}
use Rattle.ps_replay.proofs.playing.play_keys.Given as goal

-- the keys passed by are played, and noted
abbrev pub invariant-loop-before : goal.invariant-loop-before
invariant-loop-before l = record {
  script : script_in l.play ≡ script_in l.initial.play;
  session : l.play.session
      ≡ session_after (script_in l.initial.play) l.initial.play.session (take l.before l.keys);
  course : l.course ≡ course_by (place_after (script_in l.initial.play) l.initial.play.session l.keys) l.before;
}
