use Rattle.std.proofs.Common.{◌≡◌, drop}
use Rattle.std.specs.List.{list_all}
use Rattle.ps_rules.specs.RulesShown.{tree_rows_shown}
use Rattle.ps_warnings.specs.Needs.{may_fit_row}
use Rattle.ps_warnings.proofs.needs.may_fit_rows.Given as goal

-- what those passed by ask for may come to be
abbrev pub invariant-loop-row : goal.invariant-loop-row
invariant-loop-row l =
    list_all (may_fit_row l.there) (tree_rows_shown (drop l.row-index l.rows))
    ≡ list_all (may_fit_row l.there) (tree_rows_shown l.rows)
