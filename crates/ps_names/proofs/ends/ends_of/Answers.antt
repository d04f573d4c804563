use Rattle.std.proofs.Common.{rules}
use Rattle.ps_names.specs.LegendNames.{legend_shown}
use Rattle.ps_names.proofs.standing.EndLaws.{ends-set}
use Rattle.ps_names.proofs.ends.ends_of.Goals as goal

pub loop-place-preserved : goal.loop-place-preserved
loop-place-preserved c = ends-set (legend_shown c.args.legend.now) c.loop-place.ends.items _ _ c.end_behind-end.result
    (search rules) c.loop-place.invariant c.end_behind-end.ensures
