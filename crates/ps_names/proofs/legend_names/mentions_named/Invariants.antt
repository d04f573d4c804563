use Rattle.std.proofs.Common.{◌≡◌, ◌++◌, ◌&&◌, drop, map, is_some}
use Rattle.std.specs.List.{list_all, filter_map}
use Rattle.ps_names.specs.Known.{mentions_shown}
use Rattle.ps_names.specs.LegendNames.{found_among}
use Rattle.ps_names.proofs.legend_names.mentions_named.Given as goal

abbrev pub invariant-loop-name : goal.invariant-loop-name
invariant-loop-name l =
    record {
      found : mentions_shown l.found.items ++ filter_map (λ mention.
          mention) (found_among l.known (map (λ n. n.now) (drop l.name-index l.names))) ≡ filter_map (λ mention.
          mention) (found_among l.known (map (λ n. n.now) l.names));
      all : (l.all_declared && list_all is_some (found_among l.known (map (λ n. n.now) (drop l.name-index l.names)))) ≡
          list_all is_some (found_among l.known (map (λ n. n.now) l.names));
    }
