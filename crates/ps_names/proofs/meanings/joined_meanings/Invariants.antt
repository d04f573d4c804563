use Rattle.std.proofs.Common.{◌≡◌, ◌++◌, drop, map}
use Rattle.ps_names.specs.LegendNames.{legend_shown}
use Rattle.ps_names.specs.MeaningSteps.{meanings_shown, joined_at, joined_meanings}
use Rattle.ps_names.proofs.meanings.joined_meanings.Given as goal

abbrev pub invariant-loop-name : goal.invariant-loop-name
invariant-loop-name l =
    meanings_shown l.made.items ++ map (joined_at (legend_shown l.legend)) (legend_shown (drop l.name-index l.legend))
    ≡ joined_meanings (legend_shown l.legend)
