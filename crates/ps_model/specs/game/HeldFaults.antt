-- Which faults a text has. The list of faults is made so that its first one is told; some that hold it leaves out
-- after others, and some that it lists stand at a header that isn't there. Here each row of the table holds or not by
-- itself, whatever else is wrong of lines that can be read; a line of RULES that has no form has that fault alone.
use Rattle.std.specs.Prelude.{◌≡◌, ◌≤◌, ◌⊎◌, ℕ, ◌&&◌, Some, None, option_to_list, List, [], ◌∷◌}
use Rattle.std.specs.Prelude.{◌++◌}
use Rattle.std.specs.List.{IsAmong, flat_map, filter_map, list_any}
use Rattle.ps_model.specs.declared.texts.Section.TheVariants.{Rules}
use Rattle.ps_model.specs.declared.faults.Fault.{Fault}
use Rattle.ps_model.specs.declared.faults.FaultKind.TheVariants.{NameTwice, NoAggregate}
use Rattle.ps_model.specs.text.Faults.{first_fault, when}
use Rattle.ps_model.specs.text.TextFaults.{utf8_fault, text_fault}
use Rattle.ps_model.specs.text.Lines.{Line, lines_of}
use Rattle.ps_model.specs.text.Sections.{section_lines}
use Rattle.ps_model.specs.names.Names.{Names}
use Rattle.ps_model.specs.rules.SourceRules.{Item, SourceRule}
use Rattle.ps_model.specs.rules.RuleSymbols.{tokens_of, tokens_kept}
use Rattle.ps_model.specs.rules.RuleShape.{RuleShape, cells_of_side}
use Rattle.ps_model.specs.rules.RuleTree.{items_of}
use Rattle.ps_model.specs.rules.RuleLines.{LineForm, StartForm, EndForm, RuleForm, NoForm, form_of, lines_with_words}
use Rattle.ps_model.specs.rules.RuleShapeFaults.{has_other_rows}
use Rattle.ps_model.specs.rules.RuleNameFaults.{name_twice, is_no_before_aggregate}
use Rattle.ps_model.specs.rules.ReadingFaults.{too_many_readings, impossible_rules}
use Rattle.ps_model.specs.board.RulePrograms.{rule_in}
use Rattle.ps_model.specs.game.Games.{Game, game_read, faults}

-- rules ---------------------------------------------------------------------------------------------------------------

-- the items of each cell of each side
abbrev pub items_of_sides : RuleShape → List (List Item)
items_of_sides shape = flat_map (λ words. items_of words ∷ []) (cells_of_side shape.left ++ cells_of_side shape.right)

-- where the rows of a rule differ, RU3, no tree has all its cells. Then a name twice in a cell of either side, RU5, or
-- `no` before an aggregate, RU6, is a fault beside it
abbrev pub hidden_by_rows : ℕ → LineForm → List Fault
hidden_by_rows line StartForm = []
hidden_by_rows line EndForm = []
hidden_by_rows line (RuleForm shape rule) =
    when (has_other_rows shape && list_any name_twice (items_of_sides shape)) NameTwice line
    ++ when (has_other_rows shape && list_any (list_any is_no_before_aggregate) (items_of_sides shape)) NoAggregate line
hidden_by_rows line NoForm = []

-- those of a line of RULES
abbrev pub hidden_in_line : Names → Line → List Fault
hidden_in_line names line = hidden_by_rows line.number (form_of line (tokens_kept (tokens_of names line)))

-- a rule without a possible reading, GM5, beside rules with too many readings, GM4
abbrev pub hidden_by_count : List Fault → Names → List SourceRule → List Fault
hidden_by_count [] names rules = []
hidden_by_count (fault ∷ others) names rules = impossible_rules names rules

-- those of all rules
abbrev pub hidden_in_readings : Names → List SourceRule → List Fault
hidden_in_readings names rules = hidden_by_count (too_many_readings names 0 rules) names rules

-- texts ---------------------------------------------------------------------------------------------------------------

-- what the list of faults leaves out of lines of which this was read
abbrev pub hidden_in_lines : Game → List Line → List Fault
hidden_in_lines read lines =
    flat_map (hidden_in_line read.names) (lines_with_words (section_lines lines Rules)) ++ hidden_in_readings
    read.names (filter_map rule_in read.rules)

-- what it leaves out of a text; of bytes that are too many to be a text, TX2, that they aren't UTF-8 either, TX1
abbrev pub hidden_faults : List ℕ → List Fault
hidden_faults text = elim (text_fault text) [
  | Some fault ↦ option_to_list (utf8_fault text)
  | None ↦ hidden_in_lines (game_read (lines_of text)) (lines_of text)
]

-- the text has that fault: it is the one that is told; it is listed, at a line of the text; or the list leaves it out
abbrev pub IsFaultOf : List ℕ → Fault → Type 0
IsFaultOf text fault =
    (first_fault (faults text) ≡ Some fault) ⊎
    ((IsAmong (faults text) fault × (1 ≤ fault.line)) ⊎ IsAmong (hidden_faults text) fault)
