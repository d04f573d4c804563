use Rattle.std.proofs.Common.{◌∙◌, ap}
use Rattle.ps_model.specs.board.Turns.{Script, script_at}
use Rattle.ps_model.specs.game.Games.{Game}
use Rattle.ps_rulebook.specs.PlayedGames.{AreCompiled}
use Rattle.ps_run.proofs.Scripts.{made_of}
use Rattle.ps_run.proofs.PlayedKeys.{played}
use Rattle.ps_solve.proofs.SourceLevels.{played_as_written}
use Rattle.ps_solve.proofs.solving.solve_after.Goals as goal

pub returns : goal.returns
returns g c = λ text is.
    let read : Game = c.args.game.now in
    let source : Script = script_at read c.args.played.entry in
    let made : AreCompiled read.names read.rules c.in-Ok.compiled.plain c.in-Ok.compiled.late =
    made_of c.game.inside.names read.names c.game.inside.rules read.rules c.in-Ok.compiled.plain c.in-Ok.compiled.late
    (ap (λ (r : Game). r.names) c.game.view_is) (ap (λ (r : Game). r.rules) c.game.view_is)
    (record {
      plain_alike = c.in-Ok.ensures.plain_alike;
      late_alike = c.in-Ok.ensures.late_alike;
      plain_runs = c.in-Ok.ensures.plain_runs;
      late_runs = c.in-Ok.ensures.late_runs;
    }) in
    c.searched.ensures source (played source c.args.played.keys.now) c.args.limit
    (played_as_written text read c.args.played.entry c.args.played.keys.now c.args.limit c.new-script.result.game
    c.new-script.result.plain.now c.new-script.result.late.now c.in-Ok.compiled.plain c.in-Ok.compiled.late
    c.in-Ok-play_keys.play c.solve_play-found.result is made c.new-script.ensures.plain c.new-script.ensures.late
    (c.new-script.ensures.game ∙ c.parts_of_game.ensures.parts) c.in-Ok-play_keys.ensures.script
    c.in-Ok-play_keys.ensures.session c.solve_play-found.ensures)
