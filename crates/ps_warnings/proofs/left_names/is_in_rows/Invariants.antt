use Rattle.std.proofs.Common.{◌≡◌, drop}
use Rattle.std.specs.List.{list_any}
use Rattle.ps_names.specs.Shown.{meaning_shown}
use Rattle.ps_rules.specs.RulesShown.{tree_rows_shown}
use Rattle.ps_warnings.specs.LeftNames.{is_in_row}
use Rattle.ps_warnings.proofs.left_names.is_in_rows.Given as goal

-- it isn't in those passed by
abbrev pub invariant-loop-row : goal.invariant-loop-row
invariant-loop-row l =
    list_any (is_in_row (meaning_shown l.meaning)) (tree_rows_shown (drop l.row-index l.rows))
    ≡ list_any (is_in_row (meaning_shown l.meaning)) (tree_rows_shown l.rows)
