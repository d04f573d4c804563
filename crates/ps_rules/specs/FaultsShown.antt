-- The faults of a rule in three parts.
use Rattle.std.specs.Prelude.{ℕ, List, ◌++◌}
use Rattle.ps_model.specs.declared.faults.Fault.{Fault}
use Rattle.ps_model.specs.declared.faults.FaultKind.{FaultKind}
use Rattle.ps_model.specs.declared.faults.FaultKind.TheVariants.{BadBracket, UnknownWord, RowsDiffer, NothingRight}
use Rattle.ps_model.specs.declared.faults.FaultKind.TheVariants.{NameTwice, NoAggregate, Unbound, LateMove, PlusAlone}
use Rattle.ps_model.specs.declared.faults.FaultKind.TheVariants.{PlusLate, Ellipsis}
use Rattle.ps_model.specs.text.Faults.{when}
use Rattle.ps_model.specs.rules.RuleShape.{RuleShape}
use Rattle.ps_model.specs.rules.RuleFaults.{Above, has_lone_plus, joins_other_part}
use Rattle.ps_model.specs.rules.RuleShapeFaults.{has_bad_bracket, has_unknown_word, has_other_rows, has_nothing_right}
use Rattle.ps_model.specs.rules.RuleShapeFaults.{has_late_move, has_bad_ellipsis}
use Rattle.ps_model.specs.rules.RuleNameFaults.{has_name_twice, puts_no_before_aggregate, has_unbound}
use Rattle.ps_model.specs.rules.SourceRules.{SourceRule}

abbrev pub fault_at : ℕ → FaultKind → Fault
fault_at line kind = record { kind = kind; line = line }

-- those of its shape that are told first
abbrev pub shape_faults : ℕ → RuleShape → List Fault
shape_faults line shape =
    when (has_bad_bracket shape) BadBracket line
    ++ (when (has_unknown_word shape) UnknownWord line
    ++ (when (has_other_rows shape) RowsDiffer line
    ++ when (has_nothing_right shape) NothingRight line))

-- those of its names
abbrev pub name_faults : ℕ → SourceRule → List Fault
name_faults line rule =
    when (has_name_twice rule) NameTwice line
    ++ (when (puts_no_before_aggregate rule) NoAggregate line
    ++ when (has_unbound rule) Unbound line)

-- those that are told last
abbrev pub last_faults : Above → ℕ → RuleShape → SourceRule → List Fault
last_faults above line shape rule =
    when (has_late_move shape) LateMove line
    ++ (when (has_lone_plus above rule) PlusAlone line
    ++ (when (joins_other_part above rule) PlusLate line
    ++ when (has_bad_ellipsis shape) Ellipsis line))
