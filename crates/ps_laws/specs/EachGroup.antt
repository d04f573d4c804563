-- What is said of sections by their groups, whatever stands for a rule in them, and of lines of RULES by their rules.
use Rattle.std.specs.Prelude.{List, All, IfSome}
use Rattle.std.specs.List.{AllZip}
use Rattle.ps_model.specs.rules.SourceRules.{SourceRule, RuleLine}
use Rattle.ps_model.specs.board.RuleSections.{SectionOf, Group, Loop}
use Rattle.ps_model.specs.board.RulePrograms.{rule_in}

-- each group of a section is such
abbrev pub EachGroup : {A : Type 0} → (List A → Type 0) → SectionOf A → Type 0
EachGroup IsSuch (Group rules) = IsSuch rules
EachGroup IsSuch (Loop body) = All IsSuch body

-- two sections are related: both are groups that are, or both are loops over groups that are one by one
abbrev pub GroupByGroup : {A B : Type 0} → (List A → List B → Type 0) → SectionOf A → SectionOf B → Type 0
GroupByGroup Related (Group a) (Group b) = Related a b
GroupByGroup Related (Group a) (Loop b) = ⊥
GroupByGroup Related (Loop a) (Group b) = ⊥
GroupByGroup Related (Loop a) (Loop b) = AllZip Related a b

-- a line has a rule that is such, or none
abbrev pub HasSuchRule : (SourceRule → Type 0) → RuleLine → Type 0
HasSuchRule IsSuch line = IfSome (rule_in line) IsSuch
