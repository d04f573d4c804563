use Rattle.std.proofs.Common.{ap}
use Rattle.ps_model.specs.game.Games.{Game}
use Rattle.ps_run.proofs.Scripts.{made_of}
use Rattle.lizhakoven.proofs.compiled_game.CompiledGame.new.Goals as goal

pub invariant_of-result : goal.invariant_of-result
invariant_of-result c = (
  c.requires.playable,
  (
    c.requires.rooms,
    made_of c.game.inside.names c.args.game.names c.game.inside.rules c.args.game.rules c.in_ok-programs.programs.plain
        c.in_ok-programs.programs.late (ap (λ (r : Game). r.names) c.game.view_is)
        (ap (λ (r : Game). r.rules) c.game.view_is)
        (record {
          plain_alike = c.in_ok-programs.ensures.plain_alike;
          late_alike = c.in_ok-programs.ensures.late_alike;
          plain_runs = c.in_ok-programs.ensures.plain_runs;
          late_runs = c.in_ok-programs.ensures.late_runs;
        }),
  ),
)
