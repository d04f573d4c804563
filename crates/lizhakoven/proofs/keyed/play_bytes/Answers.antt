use Rattle.std.proofs.Common.{◌++◌, ◌∙◌, List, ℕ, append-nil, refl, subst, sym}
use Rattle.std.proofs.lemmas.List.{take_all}
use Rattle.ps_run.specs.GamesInPlay.{script_in}
use Rattle.lizhakoven.specs.PlayedKeys.{HasPlayed}
use Rattle.lizhakoven.proofs.PlayedOn.{played_more}
use Rattle.lizhakoven.proofs.keyed.play_bytes.Goals as goal

pub loop-byte-init : goal.loop-byte-init
loop-byte-init c = record {
  script = refl;
  played = λ is_whole read can had. subst (λ (all : List ℕ).
      HasPlayed is_whole (script_in c.args.play.now) c.args.play.now.session c.args.keys.now all)
      (sym (append-nil read)) had;
}

pub loop-byte-preserved : goal.loop-byte-preserved
loop-byte-preserved c =
    let before = c.loop-byte.invariant in
    record {
      script = c.in_ok-play_byte.ensures.script ∙ before.script;
      played = λ is_whole read can had. played_more is_whole _ _ _ _ _ _ read c.args.bytes.now c.loop-byte.byte-index
          c.loop-byte-test.true before.script can (before.played is_whole read can had)
          c.in_ok-play_byte.ensures.played;
    }

pub returns-clause-played : goal.returns-clause-played
returns-clause-played c = λ is_whole read can had.
    subst (λ (all : List ℕ).
    HasPlayed is_whole (script_in c.args.play.now) c.loop-byte.play.session c.loop-byte.keys (read ++ all))
    (take_all c.loop-byte.byte-index c.args.bytes.now c.loop-byte-test.false)
    (c.loop-byte.invariant.played is_whole read can had)
