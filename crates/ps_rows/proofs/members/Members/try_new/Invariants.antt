use Rattle.std.proofs.Common.{◌≡◌, vec_len}
use Rattle.ps_rows.specs.Members.{AreRangesOf}
use Rattle.ps_rows.proofs.members.Members.try_new.Given as goal

-- the layers passed by have their ranges
abbrev pub invariant-loop-layer : goal.invariant-loop-layer
invariant-loop-layer l = record {
  long : vec_len l.ranges ≡ l.layer;
  each : AreRangesOf l.table.items l.numbers.items l.ranges.items;
}
