use Rattle.std.proofs.Common.{◌≡◌, ◌≤◌, drop}
use Rattle.std.specs.Prelude.{nat_lt, length, filter, ◌+◌}
use Rattle.ps_model.specs.declared.limits.TheConstants.{ELLIPSIS_LIMIT}
use Rattle.ps_model.specs.rules.RuleShape.{has_kind, is_ellipsis}
use Rattle.ps_model.specs.rules.RuleShapeFaults.{has_many_ellipses}
use Rattle.ps_rules.specs.Kinds.{parts_shown}
use Rattle.ps_rules.proofs.ellipses.has_many.Given as goal

abbrev pub invariant-loop-cell : goal.invariant-loop-cell
invariant-loop-cell l =
    (l.found ≤ ELLIPSIS_LIMIT)
    × (nat_lt ELLIPSIS_LIMIT (l.found + length
    (filter (has_kind is_ellipsis) (parts_shown (drop l.cell-index l.cells)))) ≡ has_many_ellipses
    (parts_shown l.cells))
