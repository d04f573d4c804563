use Rattle.std.proofs.Common.{◌≡◌, drop, map}
use Rattle.ps_model.specs.text.OptionSteps.{all_there}
use Rattle.ps_model.specs.rules.RuleShape.{row_of}
use Rattle.ps_rules.specs.Kinds.{parts_shown}
use Rattle.ps_rules.specs.ShapesShown.{behind, rows_shown}
use Rattle.ps_rules.proofs.shapes.rows_of.Given as goal

abbrev pub invariant-loop-part : goal.invariant-loop-part
invariant-loop-part l = behind (rows_shown l.rows.items)
    (all_there (map row_of (parts_shown (drop l.part-index l.parts)))) ≡ all_there (map row_of (parts_shown l.parts))
