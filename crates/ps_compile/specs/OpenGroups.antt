-- The group that is open, if there is one.
use Rattle.std.specs.Prelude.{Bool, true, false, Option, Some, None, List, [], ◌∷◌}
use Rattle.std.specs.Global.{Vec}
use Rattle.ps_model.specs.meaning.Compiled as model
use Rattle.ps_program.specs.declared.rules.CompiledRule.{CompiledRule}
use Rattle.ps_program.specs.ProgramShown.{rules_shown}

-- the rules of an open group
abbrev pub open_shown : Vec CompiledRule → List model.CompiledRule
open_shown rules = rules_shown rules.items

-- those of the one that is open
abbrev pub opened_rules : Option (List model.CompiledRule) → List model.CompiledRule
opened_rules None = []
opened_rules (Some rules) = rules

-- the group, in a list of its own
abbrev pub opened_groups : Option (List model.CompiledRule) → List (List model.CompiledRule)
opened_groups None = []
opened_groups (Some rules) = rules ∷ []

-- the groups that are closed before a rule, and what is left open: nothing is closed before one that is joined
abbrev pub closed_by : Bool → Option (List model.CompiledRule) → List (List model.CompiledRule)
closed_by true group = []
closed_by false group = opened_groups group

abbrev pub left_open : Bool → Option (List model.CompiledRule) → Option (List model.CompiledRule)
left_open true group = group
left_open false group = None
