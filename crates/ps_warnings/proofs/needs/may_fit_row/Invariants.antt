use Rattle.std.proofs.Common.{◌≡◌, drop}
use Rattle.std.specs.List.{list_all}
use Rattle.ps_rules.specs.RulesShown.{tree_row_shown}
use Rattle.ps_warnings.specs.Needs.{may_fit_part}
use Rattle.ps_warnings.proofs.needs.may_fit_row.Given as goal

-- what those passed by ask for may come to be
abbrev pub invariant-loop-part : goal.invariant-loop-part
invariant-loop-part l =
    list_all (may_fit_part l.there) (tree_row_shown (drop l.part-index l.row))
    ≡ list_all (may_fit_part l.there) (tree_row_shown l.row)
