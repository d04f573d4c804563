use Rattle.std.proofs.Common.{◌≡◌, ◌+◌, [], drop, length, replicate, false}
use Rattle.ps_model.specs.names.Meanings.{mention_count}
use Rattle.ps_names.specs.Known.{mentions_shown}
use Rattle.ps_names.specs.LegendNames.{reached_with, reached_from, legend_shown}
use Rattle.ps_names.proofs.reach.reach_of.Given as goal

abbrev pub invariant-loop-name : goal.invariant-loop-name
invariant-loop-name l =
    reached_with l.legend (mention_count (legend_shown (drop l.name-index l.legend))) l.reach
    ≡ reached_from (legend_shown l.legend) (length l.mentions + mention_count (legend_shown l.legend))
    (record { objects = []; lines = replicate (length l.legend) false }) (mentions_shown l.mentions)
