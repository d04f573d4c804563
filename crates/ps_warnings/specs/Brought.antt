-- The objects that may come to be in a game: its levels have them, or its rules bring them. A rule brings what its right
-- names, unless its left has the same name: it applies only where that stands already. No board can have other objects.
use Rattle.std.specs.Prelude.{Bool, false, if◌then◌else◌, List, [], ◌∷◌, replicate}
use Rattle.std.specs.List.{filter_map, flat_map}
use Rattle.ps_model.specs.names.Names.{Meaning, Names, object_count}
use Rattle.ps_model.specs.rules.SourceRules.{Item, Is, No, CellPair, SourceRule, RuleLine}
use Rattle.ps_model.specs.board.RulePrograms.{rule_in}
use Rattle.ps_model.specs.session.LevelLines.{Entry}
use Rattle.ps_warnings.specs.LeftNames.{names_on_left}
use Rattle.ps_warnings.specs.Marks.{marked}
use Rattle.ps_warnings.specs.ObjectWarnings.{used_objects}

-- what is brought by a name on the right of a rule, whose left has it or hasn't
abbrev pub brought_unless : Bool → Meaning → List Meaning
brought_unless is_left meaning = if is_left then [] else meaning ∷ []

-- what an item on the right of a rule brings
abbrev pub brought_by_item : SourceRule → Item → List Meaning
brought_by_item rule (Is number word meaning) = brought_unless (names_on_left rule meaning) meaning
brought_by_item rule (No meaning) = []

-- a cell of it, the cells of a part, and the parts of a row
abbrev pub brought_by_cell : SourceRule → CellPair → List Meaning
brought_by_cell rule cell = flat_map (brought_by_item rule) cell.right

abbrev pub brought_by_part : SourceRule → List CellPair → List Meaning
brought_by_part rule cells = flat_map (brought_by_cell rule) cells

abbrev pub brought_by_row : SourceRule → List (List CellPair) → List Meaning
brought_by_row rule parts = flat_map (brought_by_part rule) parts

-- a rule
abbrev pub brought_by_rule : SourceRule → List Meaning
brought_by_rule rule = flat_map (brought_by_row rule) rule.rows

-- all rules of lines
abbrev pub brought_by_rules : List RuleLine → List Meaning
brought_by_rules lines = flat_map brought_by_rule (filter_map rule_in lines)

-- a mark for each object of the names, which those have that levels have or rules bring
abbrev pub objects_there : Names → List RuleLine → List Entry → List Bool
objects_there names lines entries =
    marked (replicate (object_count names) false) (used_objects (brought_by_rules lines) entries)
