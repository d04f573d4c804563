use Rattle.std.proofs.Common.{◌≡◌, drop, length}
use Rattle.std.specs.Prelude.{nat_eq}
use Rattle.std.specs.List.{list_all}
use Rattle.ps_rules.specs.RulesShown.{tree_row_shown}
use Rattle.ps_readings.proofs.directions.are_one_cell.Given as goal

abbrev pub invariant-loop-part : goal.invariant-loop-part
invariant-loop-part l = list_all (λ part. nat_eq (length part) 1) (tree_row_shown (drop l.part-index l.parts)) ≡
    list_all (λ part. nat_eq (length part) 1) (tree_row_shown l.parts)
