-- Compiled rules of the code as those of the definitions.
use Rattle.std.specs.Prelude.{List, map}
use Rattle.ps_model.specs.board.RuleSections.{Group as GroupOf, Loop as LoopOf}
use Rattle.ps_model.specs.meaning.Compiled as model
use Rattle.ps_program.specs.CommandsShown.{commands_shown}
use Rattle.ps_program.specs.declared.cells.CompiledCell.{CompiledCell}
use Rattle.ps_program.specs.declared.rows.CompiledRow.{CompiledRow}
use Rattle.ps_program.specs.declared.rules.CompiledRule.{CompiledRule}
use Rattle.ps_program.specs.declared.program.CompiledSection.{CompiledSection}
use Rattle.ps_program.specs.declared.program.CompiledSection.TheVariants.{Group, Loop}
use Rattle.ps_program.specs.Axes.{direction_of}
pub use Rattle.ps_program.specs.CellsShown.{mask_shown, write_shown}

-- a cell of a rule: its mask and its write
abbrev pub cell_shown : CompiledCell → model.CompiledCell
cell_shown cell = record { mask = mask_shown cell.mask; write = write_shown cell.write }

-- parts of a row of a rule, the row, and the rows of a rule
abbrev pub parts_shown : List (List CompiledCell) → List (List model.CompiledCell)
parts_shown parts = map (map cell_shown) parts

abbrev pub row_shown : CompiledRow → List (List model.CompiledCell)
row_shown row = parts_shown row.parts

abbrev pub rows_shown : List CompiledRow → List (List (List model.CompiledCell))
rows_shown rows = map row_shown rows

abbrev pub rule_shown : CompiledRule → model.CompiledRule
rule_shown rule = record {
  direction = direction_of rule.axis;
  rows = rows_shown rule.rows;
  rewrites = rule.rewrites;
  commands = commands_shown rule.commands.value;
}

-- the rules of a group, and the groups of a loop
abbrev pub rules_shown : List CompiledRule → List model.CompiledRule
rules_shown rules = map rule_shown rules

abbrev pub groups_shown : List (List CompiledRule) → List (List model.CompiledRule)
groups_shown groups = map rules_shown groups

abbrev pub section_shown : CompiledSection → model.CompiledSection
section_shown (Group rules) = GroupOf (rules_shown rules)
section_shown (Loop body) = LoopOf (groups_shown body)

abbrev pub sections_shown : List CompiledSection → List model.CompiledSection
sections_shown sections = map section_shown sections
