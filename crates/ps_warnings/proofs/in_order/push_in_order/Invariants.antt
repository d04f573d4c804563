use Rattle.std.proofs.Common.{◌≡◌, ◌++◌, ◌≤◌, drop, length}
use Rattle.ps_warnings.specs.InOrder.{in_order}
use Rattle.ps_warnings.proofs.in_order.push_in_order.Given as goal

-- what is left of both comes to the whole
abbrev pub invariant-loop-one : goal.invariant-loop-one
invariant-loop-one l = record {
  within : l.at ≤ length l.others;
  whole : l.told.items ++ in_order (drop l.one-index l.ones) (drop l.at l.others)
      ≡ l.initial.told.items ++ in_order l.ones l.others;
}
