-- The faults of the lines of RULES in the order in which they are told: by line, and within one line by their codes. A
-- `+` joins a rule to the group of the rule before, of which it must be late as the other is; loops don't nest, and
-- have a start and an end.
use Rattle.std.specs.Prelude.{ℕ, suc, nat_le, Bool, true, ◌&&◌, not, if◌then◌else◌, false, Option, Some, None, is_some}
use Rattle.std.specs.Prelude.{List, [], ◌∷◌, ◌++◌}
use Rattle.std.specs.Option.{is_none}
use Rattle.ps_model.specs.declared.faults.Fault.{Fault}
use Rattle.ps_model.specs.declared.faults.FaultKind.TheVariants.{BadBracket, UnknownWord, RowsDiffer, NothingRight}
use Rattle.ps_model.specs.declared.faults.FaultKind.TheVariants.{NameTwice, NoAggregate, Unbound, LateMove, PlusAlone}
use Rattle.ps_model.specs.declared.faults.FaultKind.TheVariants.{PlusLate, Loop, Ellipsis, NotInProfile, TooManyRules}
use Rattle.ps_model.specs.declared.limits.TheConstants.{RULE_LIMIT}
use Rattle.ps_model.specs.text.Lines.{Line}
use Rattle.ps_model.specs.text.Faults.{when}
use Rattle.ps_model.specs.names.Names.{Names}
use Rattle.ps_model.specs.rules.SourceRules.{SourceRule}
use Rattle.ps_model.specs.rules.RuleSymbols.{Token, tokens_of, tokens_kept, is_left_out}
use Rattle.ps_model.specs.rules.RuleShape.{has_kind, RuleShape}
use Rattle.ps_model.specs.rules.RuleLines.{LineForm, StartForm, EndForm, RuleForm, NoForm, form_of, lines_with_words}
use Rattle.ps_model.specs.rules.RuleShapeFaults.{has_bad_bracket, has_unknown_word, has_other_rows, has_nothing_right}
use Rattle.ps_model.specs.rules.RuleShapeFaults.{has_late_move, has_bad_ellipsis}
use Rattle.ps_model.specs.rules.RuleNameFaults.{has_name_twice, puts_no_before_aggregate, has_unbound}

-- groups and loops ----------------------------------------------------------------------------------------------------

-- what stands above a line of RULES
pub record Above : Type 0 where
  -- how many rules
  pub rules : ℕ
  -- the last rule, if no loop line is below it: whether it is late
  pub last : Option Bool
  -- the loop that is open, by the line of its `startloop`
  pub loop : Option ℕ

-- above the first line stands nothing
abbrev pub nothing_above : Above
nothing_above = record { rules = 0; last = None; loop = None }

-- what stands above the next line
abbrev pub above_next : Above → ℕ → LineForm → Above
above_next above line StartForm = record above { last = None; loop = Some line }
above_next above line EndForm = record above { last = None; loop = None }
above_next above line (RuleForm shape rule) = record above { rules = suc above.rules; last = Some rule.late }
above_next above line NoForm = above

-- RU9: `+` without a rule to join
abbrev pub has_lone_plus : Above → SourceRule → Bool
has_lone_plus above rule = rule.joined && is_none above.last

-- the last rule is late and this one isn't, or the other way round
abbrev pub is_other_part : Option Bool → Bool → Bool
is_other_part None late = false
is_other_part (Some last) late = if last then not late else late

-- RU10: `+` joins a late and a plain rule
abbrev pub joins_other_part : Above → SourceRule → Bool
joins_other_part above rule = rule.joined && is_other_part above.last rule.late

-- RU11: the start of a loop within a loop
abbrev pub starts_within : Above → Bool
starts_within above = is_some above.loop

-- RU11: the end of a loop without its start
abbrev pub ends_without : Above → Bool
ends_without above = is_none above.loop

-- RU11: a loop without an end, at the line of its start
abbrev pub unclosed : Option ℕ → List Fault
unclosed None = []
unclosed (Some line) = when true Loop line

-- RU13: `random`, `randomdir` or `rigid`
abbrev pub has_left_out : List Token → Bool
has_left_out tokens = has_kind is_left_out tokens

-- RU14: one rule over the limit
abbrev pub is_one_too_many : Above → Bool
is_one_too_many above = nat_le RULE_LIMIT above.rules

-- faults --------------------------------------------------------------------------------------------------------------

-- the faults of a rule at a line, below what stands above
abbrev pub faults_of_rule : Above → ℕ → RuleShape → SourceRule → List Fault
faults_of_rule above line shape rule =
    when (has_bad_bracket shape) BadBracket line
    ++ (when (has_unknown_word shape) UnknownWord line
    ++ (when (has_other_rows shape) RowsDiffer line
    ++ (when (has_nothing_right shape) NothingRight line
    ++ (when (has_name_twice rule) NameTwice line
    ++ (when (puts_no_before_aggregate rule) NoAggregate line
    ++ (when (has_unbound rule) Unbound line
    ++ (when (has_late_move shape) LateMove line
    ++ (when (has_lone_plus above rule) PlusAlone line
    ++ (when (joins_other_part above rule) PlusLate line
    ++ when (has_bad_ellipsis shape) Ellipsis line)))))))))

-- the faults of a line by what it is, but for those of words that are left out and of too many rules
abbrev pub faults_of_form : Above → ℕ → LineForm → List Fault
faults_of_form above line StartForm = when (starts_within above) Loop line
faults_of_form above line EndForm = when (ends_without above) Loop line
faults_of_form above line (RuleForm shape rule) = faults_of_rule above line shape rule
faults_of_form above line NoForm = when true BadBracket line

-- a rule over the limit
abbrev pub faults_of_count : Above → ℕ → LineForm → List Fault
faults_of_count above line StartForm = []
faults_of_count above line EndForm = []
faults_of_count above line (RuleForm shape rule) = when (is_one_too_many above) TooManyRules line
faults_of_count above line NoForm = []

-- the faults of a line, by its words and by what it is
abbrev pub faults_of_line : Above → ℕ → List Token → LineForm → List Fault
faults_of_line above line tokens form =
    faults_of_form above line form ++ (when (has_left_out tokens) NotInProfile line ++ faults_of_count above line form)

-- the faults of lines that aren't blank, below what stands above; a loop that is left open comes last
abbrev pub faults_below : Names → Above → List Line → List Fault
faults_below names above [] = unclosed above.loop
faults_below names above (line ∷ lines) =
    let tokens : List Token = tokens_of names line in
    let form : LineForm = form_of line (tokens_kept tokens) in
    faults_of_line above line.number tokens form ++ faults_below names (above_next above line.number form) lines

-- the faults of the lines of RULES
abbrev pub rule_faults : Names → List Line → List Fault
rule_faults names lines = faults_below names nothing_above (lines_with_words lines)
