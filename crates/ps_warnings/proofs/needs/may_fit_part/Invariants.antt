use Rattle.std.proofs.Common.{◌≡◌, drop}
use Rattle.std.specs.List.{list_all}
use Rattle.ps_rules.specs.RulesShown.{part_shown}
use Rattle.ps_warnings.specs.Needs.{may_fit_cell}
use Rattle.ps_warnings.proofs.needs.may_fit_part.Given as goal

-- what those passed by ask for may come to be
abbrev pub invariant-loop-cell : goal.invariant-loop-cell
invariant-loop-cell l =
    list_all (may_fit_cell l.there) (part_shown (drop l.cell-index l.part))
    ≡ list_all (may_fit_cell l.there) (part_shown l.part)
