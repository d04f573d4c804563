use Rattle.std.proofs.Common.{◌∙◌, ap}
use Rattle.ps_model.specs.game.Games.{Game}
use Rattle.ps_rulebook.specs.PlayedGames.{AreCompiled}
use Rattle.ps_run.proofs.Scripts.{made_of}
use Rattle.ps_replay.proofs.Sources.{replayed_as_written}
use Rattle.ps_replay.proofs.replaying.replay_game.Goals as goal

pub returns : goal.returns
returns c = λ text is.
    let read : Game = c.args.game.now in
    let made : AreCompiled read.names read.rules c.in-Ok.compiled.plain c.in-Ok.compiled.late =
    made_of c.game.inside.names read.names c.game.inside.rules read.rules c.in-Ok.compiled.plain c.in-Ok.compiled.late
    (ap (λ (r : Game). r.names) c.game.view_is) (ap (λ (r : Game). r.rules) c.game.view_is)
    (record {
      plain_alike = c.in-Ok.ensures.plain_alike;
      late_alike = c.in-Ok.ensures.late_alike;
      plain_runs = c.in-Ok.ensures.plain_runs;
      late_runs = c.in-Ok.ensures.late_runs;
    }) in
    replayed_as_written text read c.args.bytes.now c.deref.result.now c.new-script.result.game
    c.new-script.result.plain.now c.new-script.result.late.now c.in-Ok.compiled.plain c.in-Ok.compiled.late
    c.in_ok-replayed.replayed is made c.new-script.ensures.plain c.new-script.ensures.late
    (c.new-script.ensures.game ∙ c.parts_of_game.ensures.parts)
    (c.deref.ensures.value ∙ c.in_ok-keys.ensures) c.in_ok-replayed.ensures
