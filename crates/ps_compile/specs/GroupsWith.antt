-- What groups in the making come to with the rules that are still to come.
use Rattle.std.specs.Prelude.{List, ◌++◌, option_map}
use Rattle.ps_model.specs.names.Names.{Names}
use Rattle.ps_model.specs.rules.SourceRules.{SourceRule}
use Rattle.ps_model.specs.board.RulePrograms.{groups_of}
use Rattle.ps_model.specs.meaning.Compiled.{CompiledRule}
use Rattle.ps_program.specs.ProgramShown.{groups_shown}
use Rattle.ps_compile.specs.declared.groups.Groups.{Groups}
use Rattle.ps_compile.specs.GroupsMade.{behind}
use Rattle.ps_compile.specs.OpenGroups.{open_shown}

abbrev pub groups_with : Names → Groups → List SourceRule → List (List CompiledRule)
groups_with names groups rules =
    groups_shown groups.closed.items ++ behind names (option_map open_shown groups.opened) (groups_of rules)
