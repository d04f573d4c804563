use Rattle.std.proofs.Common.{◌≡◌, ◌++◌, drop, map}
use Rattle.std.specs.List.{enumerate_from}
use Rattle.ps_model.specs.names.Meanings.{legend_meanings}
use Rattle.ps_names.specs.LegendNames.{legend_shown}
use Rattle.ps_names.specs.MeaningSteps.{meanings_shown, meaning_at}
use Rattle.ps_names.proofs.meanings.legend_meanings.Given as goal

abbrev pub invariant-loop-place : goal.invariant-loop-place
invariant-loop-place l =
    meanings_shown l.made.items ++ map (meaning_at (legend_shown l.legend))
    (enumerate_from l.place (legend_shown (drop l.place l.legend))) ≡ legend_meanings (legend_shown l.legend)
