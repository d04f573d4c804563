use Rattle.std.proofs.Common.{Option, subst}
use Rattle.ps_run.specs.GameScripts.{script_shown}
use Rattle.lizhakoven.specs.declared.played_keys.PlayedKeys.{PlayedKeys}
use Rattle.lizhakoven.specs.PlayedKeys.{AreLedToIf, CanGoOn, IsOfKeysIf}
use Rattle.lizhakoven.proofs.keyed.play_keys.Goals as goal

pub play_others-requires : goal.play_others-requires
play_others-requires c = record {
  of_keys = subst (λ (kept : Option PlayedKeys). IsOfKeysIf c.args.script.game.names c.args.bytes.now kept) c.in-Some.is
      c.requires.of_keys;
  goes_on = subst (λ (kept : Option PlayedKeys). CanGoOn c.args.bytes.now kept) c.in-Some.is c.requires.goes_on;
}

pub returns-in-None-clause-played : goal.returns-in-None-clause-played
returns-in-None-clause-played c = λ led. c.play_all.ensures.played

pub returns-in-Some-clause-played : goal.returns-in-Some-clause-played
returns-in-Some-clause-played c = λ led.
    c.play_others.ensures.played
    (subst (λ (kept : Option PlayedKeys). AreLedToIf (script_shown c.args.script) c.args.bytes.now kept) c.in-Some.is
    led)
