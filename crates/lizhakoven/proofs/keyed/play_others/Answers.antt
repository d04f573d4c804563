use Rattle.std.proofs.Common.{sym}
use Rattle.ps_run.specs.GameScripts.{script_shown}
use Rattle.ps_run.specs.GamesInPlay.{script_in}
use Rattle.lizhakoven.proofs.Goings.{played_others}
use Rattle.lizhakoven.proofs.keyed.play_others.Goals as goal

pub resume-requires : goal.resume-requires
resume-requires c = sym c.requires.of_keys.named

pub returns-clause-played : goal.returns-clause-played
returns-clause-played c = λ led.
    played_others (script_shown c.args.script) (script_in c.in_ok-play.play) c.in_ok-play.play.session
    c.in_ok-going.going.play.session c.in_ok-going.going.keys c.in_ok-going.going.is_whole c.args.bytes.now
    c.split_at.result.1.now c.args.before c.in_ok-play.ensures.script c.in_ok-play.ensures.session
    c.split_at.ensures.back c.in_ok-going.ensures.whole c.in_ok-going.ensures.played c.requires.goes_on led
