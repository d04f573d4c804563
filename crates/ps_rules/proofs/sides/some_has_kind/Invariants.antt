use Rattle.std.proofs.Common.{◌≡◌, drop}
use Rattle.std.specs.List.{list_any}
use Rattle.ps_model.specs.rules.RuleShape.{has_kind}
use Rattle.ps_rules.specs.Kinds.{is_kind, parts_shown}
use Rattle.ps_rules.proofs.sides.some_has_kind.Given as goal

abbrev pub invariant-loop-cell : goal.invariant-loop-cell
invariant-loop-cell l = list_any (has_kind (is_kind l.kind)) (parts_shown (drop l.cell-index l.cells)) ≡ list_any
    (has_kind (is_kind l.kind)) (parts_shown l.cells)
