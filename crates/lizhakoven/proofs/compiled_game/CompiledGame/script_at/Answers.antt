use Rattle.std.proofs.Common.{◌∙◌, Some, ap, subst, sym}
use Rattle.ps_laws.specs.AlikeScripts.{SameRuns}
use Rattle.ps_model.specs.board.Turns.{script_at}
use Rattle.ps_model.specs.game.Games.{Game}
use Rattle.ps_run.proofs.Sources.{plays_as_written}
use Rattle.ps_run.specs.GameScripts.{script_shown}
use Rattle.lizhakoven.proofs.compiled_game.CompiledGame.script_at.Goals as goal

pub returns-clause-as_written : goal.returns-clause-as_written
returns-clause-as_written c = λ text is.
    subst (λ (read : Game). SameRuns (script_shown c.new.result) (script_at read c.args.entry)) c.self.view_is
    (plays_as_written text c.self.inside.game c.args.entry c.new.result c.self.inside.programs.plain
    c.self.inside.programs.late (is ∙ ap Some (sym c.self.view_is)) c.self.invariant.1.1 c.new.ensures.plain
    c.new.ensures.late (c.new.ensures.game ∙ c.parts_of_game.ensures.parts))
