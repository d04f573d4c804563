-- The trees of the code as the trees of the definitions.
use Rattle.std.specs.Prelude.{List, map}
use Rattle.std.specs.Borrow.{Bor}
use Rattle.ps_model.specs.rules.SourceRules as model
use Rattle.ps_names.specs.Shown.{meaning_shown}
use Rattle.ps_program.specs.CommandsShown.{commands_shown}
use Rattle.ps_rules.specs.declared.tree.Item.{Item}
use Rattle.ps_rules.specs.declared.tree.Item.TheVariants.{Is, No}
use Rattle.ps_rules.specs.declared.tree.CellPair.{CellPair}
use Rattle.ps_rules.specs.declared.tree.SourceRule.{SourceRule}
use Rattle.ps_rules.specs.declared.tree.RuleLine.{RuleLine}
use Rattle.ps_rules.specs.declared.tree.RuleLine.TheVariants.{Rule, LoopStart, LoopEnd}

abbrev pub item_shown : Item → model.Item
item_shown (Is at word meaning) = model.Is at word (meaning_shown meaning)
item_shown (No meaning) = model.No (meaning_shown meaning)

abbrev pub items_shown : List Item → List model.Item
items_shown items = map item_shown items

abbrev pub cell_shown : CellPair → model.CellPair
cell_shown cell = record { left = items_shown cell.left.items; right = items_shown cell.right.items }

abbrev pub part_shown : List CellPair → List model.CellPair
part_shown cells = map cell_shown cells

abbrev pub tree_row_shown : List (List CellPair) → List (List model.CellPair)
tree_row_shown parts = map part_shown parts

abbrev pub tree_rows_shown : List (List (List CellPair)) → List (List (List model.CellPair))
tree_rows_shown rows = map tree_row_shown rows

abbrev pub rule_shown : SourceRule → model.SourceRule
rule_shown rule = record {
  line = rule.line;
  late = rule.late;
  joined = rule.joined;
  directions = rule.directions;
  rows = tree_rows_shown rule.rows;
  rewrites = rule.rewrites;
  commands = commands_shown rule.commands.value;
}

abbrev pub line_shown : RuleLine → model.RuleLine
line_shown (Rule rule) = model.Rule (rule_shown rule)
line_shown LoopStart = model.LoopStart
line_shown LoopEnd = model.LoopEnd

-- cells of a rule that are looked at
abbrev pub cell_list_shown : List (Bor CellPair) → List model.CellPair
cell_list_shown cells = map (λ cell. cell_shown cell.now) cells

abbrev pub lines_shown : List RuleLine → List model.RuleLine
lines_shown lines = map line_shown lines
