use Rattle.ps_names.specs.LegendNames.{legend_shown}
use Rattle.ps_names.specs.Ends.{AreEnds}
use Rattle.ps_names.proofs.ends.ends_of.Given as goal

abbrev pub invariant-loop-place : goal.invariant-loop-place
invariant-loop-place l = AreEnds (legend_shown l.legend) l.ends.items
