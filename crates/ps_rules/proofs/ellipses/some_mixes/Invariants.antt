use Rattle.std.proofs.Common.{◌≡◌, drop}
use Rattle.std.specs.List.{list_any}
use Rattle.ps_model.specs.rules.RuleShapeFaults.{mixes_ellipsis}
use Rattle.ps_rules.specs.Kinds.{parts_shown}
use Rattle.ps_rules.proofs.ellipses.some_mixes.Given as goal

abbrev pub invariant-loop-cell : goal.invariant-loop-cell
invariant-loop-cell l = list_any mixes_ellipsis (parts_shown (drop l.cell-index l.cells)) ≡ list_any mixes_ellipsis
    (parts_shown l.cells)
