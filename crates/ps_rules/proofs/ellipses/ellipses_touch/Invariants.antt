use Rattle.std.proofs.Common.{◌≡◌, drop}
use Rattle.ps_model.specs.rules.RuleShapeFaults.{ellipses_touch_behind, ellipses_touch}
use Rattle.ps_rules.specs.Kinds.{parts_shown}
use Rattle.ps_rules.proofs.ellipses.ellipses_touch.Given as goal

abbrev pub invariant-loop-cell : goal.invariant-loop-cell
invariant-loop-cell l = ellipses_touch_behind l.before (parts_shown (drop l.cell-index l.cells)) ≡ ellipses_touch
    (parts_shown l.cells)
