use Rattle.std.proofs.Common.{◌≡◌, ◌++◌, drop, length, map}
use Rattle.ps_model.specs.names.Meanings.{legend_name}
use Rattle.ps_names.specs.Known.{mentions_of_names}
use Rattle.ps_names.specs.LegendShown.{declarations_shown}
use Rattle.ps_names.specs.LegendNames.{legend_shown}
use Rattle.ps_names.proofs.legend_names.legend_names.Given as goal

abbrev pub invariant-loop-declared : goal.invariant-loop-declared
invariant-loop-declared l =
    (length l.made.items ≡ l.declared-index) ×
    (legend_shown l.made.items ++ map (legend_name (mentions_of_names l.known))
    (declarations_shown (drop l.declared-index l.declarations)) ≡ map (legend_name (mentions_of_names l.known))
    (declarations_shown l.declarations))
