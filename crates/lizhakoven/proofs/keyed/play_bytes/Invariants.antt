use Rattle.std.proofs.Common.{◌≡◌, ◌++◌, Bool, List, ℕ, take}
use Rattle.ps_run.specs.GamesInPlay.{script_in}
use Rattle.lizhakoven.specs.PlayedKeys.{CanPlay, HasPlayed}
use Rattle.lizhakoven.proofs.keyed.play_bytes.Given as goal

-- the bytes passed by are played
abbrev pub invariant-loop-byte : goal.invariant-loop-byte
invariant-loop-byte l = record {
  script : script_in l.play ≡ script_in l.initial.play;
  played : (is_whole : Bool) (read : List ℕ) → CanPlay is_whole l.bytes
      → HasPlayed is_whole (script_in l.initial.play) l.initial.play.session l.initial.keys read
      → HasPlayed is_whole (script_in l.initial.play) l.play.session l.keys (read ++ take l.byte-index l.bytes);
}
