use Rattle.ps_model.specs.names.Meanings.{OfLine}
use Rattle.ps_names.specs.Known.{mention_shown}
use Rattle.ps_names.specs.LegendNames.{legend_shown}
use Rattle.ps_names.specs.Ends.{StandsBehind}
use Rattle.ps_names.proofs.ends.walk.Given as goal

abbrev pub invariant-loop-passed : goal.invariant-loop-passed
invariant-loop-passed l = StandsBehind (legend_shown l.legend) (OfLine l.place) l.passed (mention_shown l.mention)
