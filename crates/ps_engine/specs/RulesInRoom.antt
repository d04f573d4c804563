-- What compiled rules mean on a board: their writes put nothing that has no room.
use Rattle.std.specs.Prelude.{ℕ, Option, List, map}
use Rattle.ps_model.specs.meaning.RuleMeanings.{RuleMeaning}
use Rattle.ps_model.specs.board.Programs.{Section, Group, Loop}
use Rattle.ps_program.specs.CommandsShown.{commands_shown}
use Rattle.ps_program.specs.declared.rules.CompiledRule.{CompiledRule}
use Rattle.ps_program.specs.declared.program.CompiledSection.{CompiledSection}
use Rattle.ps_program.specs.declared.program.CompiledSection.TheVariants.{Group as GroupOf, Loop as LoopOf}
use Rattle.ps_program.specs.Axes.{direction_of}
use Rattle.ps_places.specs.RowPlaces.{row_meaning}

abbrev pub rule_meaning : Option (List ℕ) → CompiledRule → RuleMeaning
rule_meaning table rule = record {
  direction = direction_of rule.axis;
  rows = map (row_meaning table) rule.rows;
  rewrites = rule.rewrites;
  commands = commands_shown rule.commands.value;
}

abbrev pub rules_meaning : Option (List ℕ) → List CompiledRule → List RuleMeaning
rules_meaning table rules = map (rule_meaning table) rules

abbrev pub groups_meaning : Option (List ℕ) → List (List CompiledRule) → List (List RuleMeaning)
groups_meaning table groups = map (rules_meaning table) groups

abbrev pub section_meaning : Option (List ℕ) → CompiledSection → Section
section_meaning table (GroupOf rules) = Group (rules_meaning table rules)
section_meaning table (LoopOf groups) = Loop (groups_meaning table groups)

abbrev pub sections_meaning : Option (List ℕ) → List CompiledSection → List Section
sections_meaning table sections = map (section_meaning table) sections
