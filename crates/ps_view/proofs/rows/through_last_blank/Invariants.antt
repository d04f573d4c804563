use Rattle.std.proofs.Common.{◌≡◌, ◌≤◌, ◌+◌, cond, drop}
use Rattle.std.specs.Prelude.{nat_lt}
use Rattle.ps_view.specs.Rows.{through_last_blank}
use Rattle.ps_view.proofs.rows.through_last_blank.Given as goal

-- the last blank is one that is still to come, or else the last of those passed by
abbrev pub invariant-loop-place : goal.invariant-loop-place
invariant-loop-place l = record {
  last : cond (nat_lt 0 (through_last_blank (drop l.place l.text)))
      (l.place + through_last_blank (drop l.place l.text)) l.count ≡ through_last_blank l.text;
  within : l.count ≤ l.place;
}
