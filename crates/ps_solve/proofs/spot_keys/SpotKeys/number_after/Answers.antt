use Rattle.ps_solve.proofs.KeptKeys.{at_kept}
use Rattle.ps_solve.proofs.spot_keys.SpotKeys.number_after.Goals as goal

pub returns-in-Some-clause-at : goal.returns-in-Some-clause-at
returns-in-Some-clause-at g c =
    at_kept c.args.self.now c.number_restart.new.self c.number_restart.ensures.kept c.args.trial.now
    c.args.at.now.board.words c.args.at.now.restart c.number_restart.ensures.own c.requires
