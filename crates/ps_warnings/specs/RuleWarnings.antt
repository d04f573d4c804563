-- Rules that can do nothing: of none of their readings a rule is compiled that can do something. A rule that asks for a
-- sound is let be, as that is all that it may be for. And rules that can never apply, as they need an object that no level
-- has and no rule brings.
use Rattle.std.specs.Prelude.{ℕ, nat_eq, Bool, ◌&&◌, not, if◌then◌else◌, Option, Some, None, List, [], ◌∷◌, length}
use Rattle.std.specs.List.{filter_map, flat_map, list_any}
use Rattle.ps_model.specs.names.Names.{Names}
use Rattle.ps_model.specs.rules.SourceRules.{SourceRule, RuleLine}
use Rattle.ps_model.specs.board.RulePrograms.{rule_in}
use Rattle.ps_compile.specs.CompactPrograms.{compact_rules}
use Rattle.ps_warnings.specs.declared.kinds.Warning.{Warning}
use Rattle.ps_warnings.specs.declared.kinds.WarningKind.{WarningKind}
use Rattle.ps_warnings.specs.declared.kinds.WarningKind.TheVariants.{IdleRule, LackingRule}
use Rattle.ps_warnings.specs.Needs.{lacks_something}

-- the rule can do nothing
abbrev pub is_idle : Names → SourceRule → Bool
is_idle names rule = nat_eq (length (compact_rules names rule)) 0

-- the line is one of these, which ask for a sound
abbrev pub sounds_at : List ℕ → ℕ → Bool
sounds_at sounding line = list_any (λ number. nat_eq number line) sounding

-- the rule can do nothing, and isn't let be
abbrev pub is_told_idle : Names → List ℕ → SourceRule → Bool
is_told_idle names sounding rule = is_idle names rule && not (sounds_at sounding rule.line)

-- what is wrong with a rule of which these two are so, if one is
abbrev pub kind_by : Bool → Bool → Option WarningKind
kind_by idle lacks = if idle then Some IdleRule else if lacks then Some LackingRule else None

-- what is wrong with a rule, if something is
abbrev pub kind_of_rule : Names → List ℕ → List Bool → SourceRule → Option WarningKind
kind_of_rule names sounding there rule = kind_by (is_told_idle names sounding rule) (lacks_something there rule)

-- a rule at a line, if something is wrong with it
abbrev pub warned_of_rule : Option WarningKind → ℕ → List Warning
warned_of_rule None line = []
warned_of_rule (Some kind) line = record { line = line; kind = kind } ∷ []

-- a rule
abbrev pub warnings_of_rule : Names → List ℕ → List Bool → SourceRule → List Warning
warnings_of_rule names sounding there rule = warned_of_rule (kind_of_rule names sounding there rule) rule.line

-- all rules of lines, where these lines ask for a sound and these objects may come to be
abbrev pub rule_warnings : Names → List ℕ → List Bool → List RuleLine → List Warning
rule_warnings names sounding there lines =
    flat_map (warnings_of_rule names sounding there) (filter_map rule_in lines)
