use Rattle.std.proofs.Common.{◌≡◌, take}
use Rattle.ps_view.proofs.rows.copies.Given as goal

-- the rows passed by
abbrev pub invariant-loop-row : goal.invariant-loop-row
invariant-loop-row l = l.copies.items ≡ take l.row-index l.rows
