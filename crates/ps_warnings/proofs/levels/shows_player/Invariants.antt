use Rattle.std.proofs.Common.{◌≡◌, drop}
use Rattle.std.specs.List.{list_any}
use Rattle.ps_model.specs.names.Names.{is_among, players}
use Rattle.ps_warnings.proofs.levels.shows_player.Given as goal

-- no Player stands in the cells passed by
abbrev pub invariant-loop-number : goal.invariant-loop-number
invariant-loop-number l = list_any (list_any (is_among (players l.names))) (drop l.number l.cells)
    ≡ list_any (list_any (is_among (players l.names))) l.cells
