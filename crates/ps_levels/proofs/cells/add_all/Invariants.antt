use Rattle.std.proofs.Common.{◌≡◌, ◌≤◌, ◌++◌, drop}
use Rattle.ps_levels.proofs.cells.add_all.Given as goal

-- what is left comes to the whole
abbrev pub invariant-loop-object : goal.invariant-loop-object
invariant-loop-object l =
    (l.list.items ++ drop l.object-index l.objects ≡ l.initial.list.items ++ l.objects)
    × (l.initial.list.len ≤ l.list.len)
