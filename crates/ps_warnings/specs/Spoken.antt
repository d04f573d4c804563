-- What a game speaks of: what the items of its rules stand for, on the left and on the right, and the names of its win
-- conditions. Of Player and of Background it speaks in any case, as each game needs them.
use Rattle.std.specs.Prelude.{ℕ, option_to_list, List, ◌∷◌, ◌++◌, map, codes}
use Rattle.std.specs.List.{filter_map, flat_map}
use Rattle.ps_model.specs.names.Names.{Meaning, Names, meaning_of}
use Rattle.ps_model.specs.rules.SourceRules.{Item, Is, No, CellPair, SourceRule, RuleLine}
use Rattle.ps_model.specs.board.RulePrograms.{rule_in}
use Rattle.ps_model.specs.board.Wins.{Win}
use Rattle.ps_model.specs.game.Games.{Game}

-- what an item stands for
abbrev pub spoken_in_item : Item → Meaning
spoken_in_item (Is number word meaning) = meaning
spoken_in_item (No meaning) = meaning

-- what a cell of a rule speaks of
abbrev pub spoken_in_cell : CellPair → List Meaning
spoken_in_cell cell = map spoken_in_item cell.left ++ map spoken_in_item cell.right

-- a part of a row, a row, and a rule
abbrev pub spoken_in_part : List CellPair → List Meaning
spoken_in_part cells = flat_map spoken_in_cell cells

abbrev pub spoken_in_row : List (List CellPair) → List Meaning
spoken_in_row parts = flat_map spoken_in_part parts

abbrev pub spoken_in_rule : SourceRule → List Meaning
spoken_in_rule rule = flat_map spoken_in_row rule.rows

-- all rules of lines
abbrev pub spoken_in_rules : List RuleLine → List Meaning
spoken_in_rules lines = flat_map spoken_in_rule (filter_map rule_in lines)

-- a win condition, and all of them
abbrev pub spoken_in_win : Win → List Meaning
spoken_in_win win = win.subject ∷ option_to_list win.place

abbrev pub spoken_in_wins : List Win → List Meaning
spoken_in_wins wins = flat_map spoken_in_win wins

-- what a name stands for, if it is declared
abbrev pub spoken_by_name : Names → List ℕ → List Meaning
spoken_by_name names name = option_to_list (meaning_of names name)

-- all that a game speaks of that has these names, rules and win conditions
abbrev pub spoken_with : Names → List RuleLine → List Win → List Meaning
spoken_with names rules wins =
    spoken_in_rules rules
    ++ (spoken_in_wins wins
    ++ (spoken_by_name names (codes "player") ++ spoken_by_name names (codes "background")))

-- all that a game speaks of
abbrev pub spoken_in : Game → List Meaning
spoken_in read = spoken_with read.names read.rules read.wins
