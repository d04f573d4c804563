use Rattle.std.proofs.Common.{◌∙◌, Some, ap}
use Rattle.ps_model.specs.board.Turns.{script_at}
use Rattle.ps_model.specs.game.Games.{Game}
use Rattle.ps_rulebook.specs.PlayedGames.{AreCompiled}
use Rattle.ps_run.specs.GameScripts.{script_shown}
use Rattle.ps_run.proofs.Rightly.{comes_rightly, wants_memory}
use Rattle.ps_run.proofs.Scripts.{made_of}
use Rattle.ps_run.proofs.Sources.{plays_as_written}
use Rattle.ps_run.proofs.read_run.run_read.Goals as goal

pub returns-in-Err : goal.returns-in-Err
returns-in-Err g c = record {
  rightly = λ text is. wants_memory (Some (script_at c.args.game.now c.args.entry)) text _ _ c.requires.heard
      c.requires.well;
}

pub returns : goal.returns
returns g c =
    let read : Game = c.args.game.now in
    let made : AreCompiled read.names read.rules c.in-Ok.compiled.plain c.in-Ok.compiled.late =
    made_of c.game.inside.names read.names c.game.inside.rules read.rules c.in-Ok.compiled.plain c.in-Ok.compiled.late
    (ap (λ (r : Game). r.names) c.game.view_is) (ap (λ (r : Game). r.rules) c.game.view_is)
    (record {
      plain_alike = c.in-Ok.ensures.plain_alike;
      late_alike = c.in-Ok.ensures.late_alike;
      plain_runs = c.in-Ok.ensures.plain_runs;
      late_runs = c.in-Ok.ensures.late_runs;
    }) in
    record {
      rightly = λ text is.
          comes_rightly text (script_at read c.args.entry) (script_shown c.new-script.result)
          (g.I.ByteReader.state c.args.reader.now) (g.I.ByteReader.state c.run_game.new.reader)
          (g.W.ByteWriter.state c.args.writer.now) (g.W.ByteWriter.state c.run_game.new.writer) c.run_game.result
          (plays_as_written text read c.args.entry c.new-script.result c.in-Ok.compiled.plain c.in-Ok.compiled.late is
          made c.new-script.ensures.plain c.new-script.ensures.late
          (c.new-script.ensures.game ∙ c.parts_of_game.ensures.parts))
          c.requires.heard c.requires.well c.run_game.ensures.answers;
    }
