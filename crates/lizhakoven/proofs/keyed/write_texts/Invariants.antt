use Rattle.std.proofs.Common.{◌≡◌, [], take}
use Rattle.ps_laws.specs.Fronts.{session_of, whole_front}
use Rattle.ps_run.specs.GamesInPlay.{script_in}
use Rattle.lizhakoven.specs.PlayedKeys.{HasWritten}
use Rattle.lizhakoven.proofs.keyed.write_texts.Given as goal

-- the bytes passed by are played, and the output has what they write
abbrev pub invariant-loop-byte : goal.invariant-loop-byte
invariant-loop-byte l = record {
  script : script_in l.play ≡ script_in l.initial.play;
  written : l.initial.play.session ≡ session_of (script_in l.initial.play) []
      → l.initial.output ≡ whole_front (script_in l.initial.play) []
      → HasWritten (script_in l.initial.play) l.play.session l.keys (take l.byte-index l.bytes) l.output;
}
