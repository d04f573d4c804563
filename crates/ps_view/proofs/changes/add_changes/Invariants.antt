use Rattle.std.proofs.Common.{◌≡◌, ◌++◌}
use Rattle.std.specs.List.{flat_map, range_with_len}
use Rattle.ps_view.specs.Screens.{row_change}
use Rattle.ps_view.proofs.changes.add_changes.Given as goal

-- the changes of the rows passed by are added
abbrev pub invariant-loop-place : goal.invariant-loop-place
invariant-loop-place l =
    l.orders ≡ l.fn.orders ++ flat_map (row_change l.before l.screen) (range_with_len 0 l.place)
