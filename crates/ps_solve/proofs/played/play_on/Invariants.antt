use Rattle.std.proofs.Common.{◌≡◌, drop}
use Rattle.ps_laws.specs.Fronts.{session_after}
use Rattle.ps_run.specs.GamesInPlay.{script_in}
use Rattle.ps_solve.proofs.played.play_on.Given as goal

-- the keys passed by are played
abbrev pub invariant-loop-key : goal.invariant-loop-key
invariant-loop-key l = record {
  script : script_in l.play ≡ script_in l.initial.play;
  session : session_after (script_in l.initial.play) l.play.session (drop l.key-index l.keys)
      ≡ session_after (script_in l.initial.play) l.initial.play.session l.keys;
}
