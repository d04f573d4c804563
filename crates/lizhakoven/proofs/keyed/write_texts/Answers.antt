use Rattle.std.proofs.Common.{◌∙◌, ap, refl}
use Rattle.std.proofs.lemmas.List.{take_all}
use Rattle.ps_laws.specs.Fronts.{whole_front}
use Rattle.ps_model.specs.session.HeldKeys as keys
use Rattle.ps_run.specs.GamesInPlay.{script_in}
use Rattle.lizhakoven.proofs.KeyedBytes.{written_more}
use Rattle.lizhakoven.proofs.keyed.write_texts.Goals as goal

pub loop-byte-init : goal.loop-byte-init
loop-byte-init c = record {
  script = refl;
  written = λ is wrote. record {
    keyed = record { session_is = is; held = ap keys.bytes_of c.new-keys.ensures };
    wrote = wrote;
  };
}

pub loop-byte-preserved : goal.loop-byte-preserved
loop-byte-preserved c =
    let before = c.loop-byte.invariant in
    record {
      script = c.in_ok-play_byte.ensures.script ∙ before.script;
      written = λ is wrote. written_more _ _ _ _ _ _ c.args.bytes.now c.loop-byte.byte-index _ _ c.loop-byte-test.true
          before.script (before.written is wrote) c.in_ok-play_byte.ensures.wrote;
    }

pub returns : goal.returns
returns c = λ is wrote.
    (c.loop-byte.invariant.written is wrote).wrote
    ∙ ap (whole_front (script_in c.args.play.now))
    (take_all c.loop-byte.byte-index c.args.bytes.now c.loop-byte-test.false)
