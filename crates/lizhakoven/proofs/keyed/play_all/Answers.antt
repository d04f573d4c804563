use Rattle.ps_run.specs.GameScripts.{script_shown}
use Rattle.ps_run.specs.GamesInPlay.{script_in}
use Rattle.lizhakoven.proofs.Goings.{played_from_start}
use Rattle.lizhakoven.proofs.keyed.play_all.Goals as goal

pub returns-clause-played : goal.returns-clause-played
returns-clause-played c =
    played_from_start (script_shown c.args.script) (script_in c.in_ok-play.play) c.in_ok-play.play.session
    c.in_ok-going.going.play.session c.new.result c.in_ok-going.going.keys c.in_ok-going.going.is_whole
    c.args.bytes.now c.in_ok-play.ensures.script c.in_ok-play.ensures.session c.new.ensures
    c.in_ok-going.ensures.whole c.in_ok-going.ensures.played
