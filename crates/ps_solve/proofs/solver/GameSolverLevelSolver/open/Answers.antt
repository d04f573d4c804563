use Rattle.std.proofs.Common.{◌≡◌, rules}
use Rattle.ps_solve.proofs.ReadLevels.{game_kept}
use Rattle.ps_solve.proofs.solver.GameSolverLevelSolver.open.Goals as goal

pub invariant_of-result : goal.invariant_of-result
invariant_of-result c =
    let same : c.of.result.value.items ≡ c.args.text.now = search rules in
    game_kept c.args.text.now c.of.result.value.items c.in_ok-game.game same c.in_ok-game.ensures.read.0
    c.in_ok-game.ensures.sized
