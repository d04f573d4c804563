-- The faults of rules that lie in their readings: too many of them, of one rule or of all rules up to it; or none that
-- is possible.
use Rattle.std.specs.Prelude.{ℕ, ◌+◌, nat_lt, ◌||◌, not, List, [], ◌∷◌, ◌++◌}
use Rattle.std.specs.List.{filter_map, flat_map}
use Rattle.ps_model.specs.declared.faults.Fault.{Fault}
use Rattle.ps_model.specs.declared.faults.FaultKind.TheVariants.{TooManyReadings, Impossible}
use Rattle.ps_model.specs.declared.limits.TheConstants.{RULE_READINGS_LIMIT, READINGS_LIMIT}
use Rattle.ps_model.specs.text.Faults.{when}
use Rattle.ps_model.specs.names.Names.{Names}
use Rattle.ps_model.specs.rules.SourceRules.{SourceRule, RuleLine}
use Rattle.ps_model.specs.meaning.Readings.{reading_count}
use Rattle.ps_model.specs.meaning.ReadingMeanings.{has_possible}
use Rattle.ps_model.specs.board.RulePrograms.{rule_in}

-- GM4: rules with too many readings, or with which the readings are too many, of which `before` come before them
abbrev pub too_many_readings : Names → ℕ → List SourceRule → List Fault
too_many_readings names before [] = []
too_many_readings names before (rule ∷ rules) =
    let count : ℕ = reading_count names rule in
    when (nat_lt RULE_READINGS_LIMIT count || nat_lt READINGS_LIMIT (before + count)) TooManyReadings rule.line
    ++ too_many_readings names (before + count) rules

-- GM5: rules of which no reading is possible
abbrev pub impossible_rules : Names → List SourceRule → List Fault
impossible_rules names rules = flat_map (λ rule. when (not (has_possible names rule)) Impossible rule.line) rules

-- faults, and where there are none, the rules of which no reading is possible
abbrev pub or_impossible : Names → List SourceRule → List Fault → List Fault
or_impossible names rules [] = impossible_rules names rules
or_impossible names rules (fault ∷ faults) = fault ∷ faults

-- the faults of rules: readings are tried only where they aren't too many
abbrev pub faults_of_readings : Names → List SourceRule → List Fault
faults_of_readings names rules = or_impossible names rules (too_many_readings names 0 rules)

-- the faults of the rules of lines
abbrev pub reading_faults : Names → List RuleLine → List Fault
reading_faults names lines = faults_of_readings names (filter_map rule_in lines)
