-- Compiled groups in the making, and what they come to with the rules that are still to come.
use Rattle.std.specs.Prelude.{if◌then◌else◌, Option, Some, None, List, [], ◌∷◌, ◌++◌, map}
use Rattle.std.specs.List.{flat_map}
use Rattle.ps_model.specs.names.Names.{Names}
use Rattle.ps_model.specs.rules.SourceRules.{SourceRule}
use Rattle.ps_model.specs.board.RulePrograms.{is_joined}
use Rattle.ps_model.specs.meaning.Compiled.{CompiledRule}
use Rattle.ps_compile.specs.CompactPrograms.{compact_rules}

-- a group of source rules, compiled
abbrev pub compiled_group : Names → List SourceRule → List CompiledRule
compiled_group names rules = flat_map (compact_rules names) rules

-- an open group before the groups that rules to come make: the first of them goes into it, if it is joined
abbrev pub behind_open : Names → List CompiledRule → List (List SourceRule) → List (List CompiledRule)
behind_open names made [] = made ∷ []
behind_open names made (group ∷ groups) =
    if is_joined group then (made ++ compiled_group names group) ∷ map (compiled_group names) groups
    else made ∷ map (compiled_group names) (group ∷ groups)

-- with an open group or without one
abbrev pub behind : Names → Option (List CompiledRule) → List (List SourceRule) → List (List CompiledRule)
behind names None groups = map (compiled_group names) groups
behind names (Some made) groups = behind_open names made groups
