-- Compiled sections in the making, by the lines that they are made of.
use Rattle.std.specs.Prelude.{List, map}
use Rattle.ps_model.specs.declared.rules.Part.{Part}
use Rattle.ps_model.specs.names.Names.{Names}
use Rattle.ps_model.specs.rules.SourceRules.{SourceRule, RuleLine}
use Rattle.ps_model.specs.board.RuleSections.{SectionOf, section_by}
use Rattle.ps_model.specs.board.RulePrograms.{groups_in, outside_loops, behind_start}
use Rattle.ps_model.specs.meaning.Compiled.{CompiledRule, CompiledSection}
use Rattle.ps_compile.specs.GroupsMade.{compiled_group}

-- sections of source rules, compiled
abbrev pub compiled_sections : Names → List (SectionOf SourceRule) → List CompiledSection
compiled_sections names sections = map (section_by (compiled_group names)) sections

-- the groups of lines
abbrev pub compact_groups : Names → Part → List RuleLine → List (List CompiledRule)
compact_groups names part lines = map (compiled_group names) (groups_in part lines)

-- the sections of lines outside of loops
abbrev pub compact_outside : Names → Part → List RuleLine → List CompiledSection
compact_outside names part lines = compiled_sections names (outside_loops part lines)

-- those of the lines after the start of a loop
abbrev pub compact_behind : Names → Part → List RuleLine → List CompiledSection
compact_behind names part lines = compiled_sections names (behind_start part lines)
