use Rattle.ps_places.proofs.TargetColumns.{reach-more}
use Rattle.ps_places.proofs.targets.reach_twice.Goals as goal

pub returns : goal.returns
returns g c = reach-more c.args.reach c.behind.result c.either.result c.args.steps c.behind.ensures c.either.ensures
