use Rattle.std.proofs.Common.{◌≡◌, drop}
use Rattle.std.specs.List.{list_any}
use Rattle.ps_names.specs.Shown.{meaning_shown}
use Rattle.ps_rules.specs.RulesShown.{tree_row_shown}
use Rattle.ps_warnings.specs.LeftNames.{is_in_part}
use Rattle.ps_warnings.proofs.left_names.is_in_row.Given as goal

-- it isn't in those passed by
abbrev pub invariant-loop-part : goal.invariant-loop-part
invariant-loop-part l =
    list_any (is_in_part (meaning_shown l.meaning)) (tree_row_shown (drop l.part-index l.row))
    ≡ list_any (is_in_part (meaning_shown l.meaning)) (tree_row_shown l.row)
