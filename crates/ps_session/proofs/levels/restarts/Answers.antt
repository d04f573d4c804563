use Rattle.std.proofs.Common.{refl}
use Rattle.ps_stage.proofs.OwnBoards.{stays_there}
use Rattle.ps_session.proofs.levels.restarts.Goals as goal

pub returns-clause-boards : goal.returns-clause-boards
returns-clause-boards g c =
    stays_there c.args.stage.now.game c.args.level.now.entry c.args.level.now.entry c.in_ok-location.location refl
    c.in_ok-location.ensures.entry
