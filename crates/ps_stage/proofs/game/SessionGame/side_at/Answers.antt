use Rattle.std.proofs.Common.{◌≤◌, List, arith}
use Rattle.ps_levels.specs.EntriesShown.{entries_shown}
use Rattle.ps_model.specs.declared.limits.TheConstants.{SIDE_LIMIT}
use Rattle.ps_model.specs.session.LevelLines.{Entry}
use Rattle.ps_stage.specs.Sides.{side_at}
use Rattle.ps_stage.proofs.EntriesFound.{fit_any, side_fits}
use Rattle.ps_stage.proofs.game.SessionGame.side_at.Goals as goal

pub returns-clause-low : goal.returns-clause-low
returns-clause-low c =
    let entries : List Entry = entries_shown c.self.inside.entries.now in
    let low : side_at entries c.args.place ≤ SIDE_LIMIT =
    side_fits SIDE_LIMIT entries c.args.place (fit_any c.self.inside.names.now entries c.self.invariant.0) in
    omega (arith, low, c.side_at.ensures)
