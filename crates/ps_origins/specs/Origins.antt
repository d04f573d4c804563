-- Where the rules of a compiled program come from: of each the line of its source rule, and the direction that it faces
-- there. Compiled, a rule that faces up or left is turned round; void rules aren't in a program.
use Rattle.std.specs.Prelude.{List, map, filter}
use Rattle.std.specs.List.{flat_map, filter_map}
use Rattle.ps_model.specs.declared.rules.Part.{Part}
use Rattle.ps_model.specs.names.Names.{Names}
use Rattle.ps_model.specs.rules.SourceRules.{SourceRule, RuleLine}
use Rattle.ps_model.specs.meaning.Compiled.{CompiledRule}
use Rattle.ps_model.specs.meaning.CompiledRules.{compiled_rules}
use Rattle.ps_model.specs.board.RulePrograms.{is_in_part, rule_in}
use Rattle.ps_compile.specs.CompactPrograms.{is_busy, rule_forwards}
use Rattle.ps_origins.specs.declared.origins.RuleOrigin.{RuleOrigin}

-- compiled rules that aren't void, as they face in the source
abbrev pub busy : Names → List CompiledRule → List CompiledRule
busy names rules = filter (λ rule. is_busy names (rule_forwards rule)) rules

-- the origin of a compiled rule of a source rule
abbrev pub origin_of : SourceRule → CompiledRule → RuleOrigin
origin_of rule compiled = record { line = rule.line; direction = compiled.direction }

-- the origins of the compiled rules of a source rule
abbrev pub origins_of : Names → SourceRule → List RuleOrigin
origins_of names rule = map (origin_of rule) (busy names (compiled_rules names rule))

-- the rules of lines that belong to a part of a turn
abbrev pub rules_in : Part → List RuleLine → List SourceRule
rules_in part lines = filter (is_in_part part) (filter_map rule_in lines)

-- the origins of all rules of the program of a part of a turn
abbrev pub rule_origins : Names → Part → List RuleLine → List RuleOrigin
rule_origins names part lines = flat_map (origins_of names) (rules_in part lines)
