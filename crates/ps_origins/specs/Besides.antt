-- Each rule of a compiled program has its origin. The rules of the program in their order, and the origins in theirs,
-- come from the same compiled rules of the source, one by one.
use Rattle.std.specs.Prelude.{◌≡◌, List, [], ◌∷◌, ◌++◌, length, map}
use Rattle.std.specs.List.{flat_map}
use Rattle.ps_model.specs.declared.rules.Part.{Part}
use Rattle.ps_model.specs.names.Names.{Names}
use Rattle.ps_model.specs.rules.SourceRules.{SourceRule, RuleLine}
use Rattle.ps_model.specs.meaning.Compiled.{CompiledRule}
use Rattle.ps_model.specs.meaning.CompiledRules.{compiled_rules}
use Rattle.ps_model.specs.board.RuleSections.{SectionOf, Group, Loop}
use Rattle.ps_compile.specs.CompactPrograms.{compact_program, rule_forwards}
use Rattle.ps_origins.specs.declared.origins.RuleOrigin.{RuleOrigin}
use Rattle.ps_origins.specs.Origins.{busy, origin_of, rule_origins, rules_in}

-- the rules of groups, in their order
abbrev pub rules_of_groups : {A : Type 0} → List (List A) → List A
rules_of_groups [] = []
rules_of_groups (rules ∷ groups) = rules ++ rules_of_groups groups

-- the rules of a section
abbrev pub rules_of_section : {A : Type 0} → SectionOf A → List A
rules_of_section (Group rules) = rules
rules_of_section (Loop body) = rules_of_groups body

-- the rules of a program
abbrev pub rules_of : {A : Type 0} → List (SectionOf A) → List A
rules_of sections = flat_map rules_of_section sections

-- a compiled rule, as it faces in the source, beside the source rule that it comes from
pub record Sourced : Type 0 where
  pub source : SourceRule
  pub compiled : CompiledRule

-- those of a source rule that aren't void
abbrev pub sourced_of : Names → SourceRule → List Sourced
sourced_of names rule =
    map (λ compiled. record { source = rule; compiled = compiled }) (busy names (compiled_rules names rule))

-- those of the rules of lines that belong to a part of a turn
abbrev pub sourced : Names → Part → List RuleLine → List Sourced
sourced names part lines = flat_map (sourced_of names) (rules_in part lines)

-- what stands for it in a program, and its origin
abbrev pub turned_rule : Sourced → CompiledRule
turned_rule each = rule_forwards each.compiled

abbrev pub origin_in : Sourced → RuleOrigin
origin_in each = origin_of each.source each.compiled

-- the rules of the program and their origins, side by side
pub record StandBeside (names : Names) (part : Part) (lines : List RuleLine) : Type 0 where
  pub rules : rules_of (compact_program names part lines) ≡ map turned_rule (sourced names part lines)
  pub origins : rule_origins names part lines ≡ map origin_in (sourced names part lines)
  pub many : length (rule_origins names part lines) ≡ length (rules_of (compact_program names part lines))

abbrev pub OriginsStandBesideRules : Type 0
OriginsStandBesideRules =
    (names : Names) (part : Part) (lines : List RuleLine) → StandBeside names part lines
