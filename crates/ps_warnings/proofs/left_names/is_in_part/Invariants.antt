use Rattle.std.proofs.Common.{◌≡◌, drop}
use Rattle.std.specs.List.{list_any}
use Rattle.ps_names.specs.Shown.{meaning_shown}
use Rattle.ps_rules.specs.RulesShown.{part_shown}
use Rattle.ps_warnings.specs.LeftNames.{is_in_cell}
use Rattle.ps_warnings.proofs.left_names.is_in_part.Given as goal

-- it isn't in those passed by
abbrev pub invariant-loop-cell : goal.invariant-loop-cell
invariant-loop-cell l =
    list_any (is_in_cell (meaning_shown l.meaning)) (part_shown (drop l.cell-index l.part))
    ≡ list_any (is_in_cell (meaning_shown l.meaning)) (part_shown l.part)
