-- What rules of a game are: every object that a name in them speaks of is one of the game's.
use Rattle.std.specs.Prelude.{ℕ, ◌<◌, All, ⊤}
use Rattle.ps_model.specs.declared.pieces.ObjectId.{ObjectId}
use Rattle.ps_model.specs.names.Names.{Names, object_count}
use Rattle.ps_model.specs.names.NameBounds.{IsBelow}
use Rattle.ps_model.specs.rules.SourceRules.{Item, Is, No, CellPair, SourceRule, RuleLine, Rule, LoopStart, LoopEnd}
use Rattle.ps_model.specs.meaning.Readings.{Reading}

-- the objects of the item's name are objects of the game
abbrev pub IsItemOf : Names → Item → Type 0
IsItemOf names (Is number word meaning) = IsBelow (object_count names) meaning
IsItemOf names (No meaning) = IsBelow (object_count names) meaning

-- those of each item of a cell are, on the left and on the right
pub record IsPairOf (names : Names) (cell : CellPair) : Type 0 where
  pub left : All (IsItemOf names) cell.left
  pub right : All (IsItemOf names) cell.right

-- those of each cell of a rule are
abbrev pub IsRuleOf : Names → SourceRule → Type 0
IsRuleOf names rule = All (All (All (IsPairOf names))) rule.rows

-- a line of RULES has a rule of the game, or none
abbrev pub IsLineOf : Names → RuleLine → Type 0
IsLineOf names (Rule rule) = IsRuleOf names rule
IsLineOf names LoopStart = ⊤
IsLineOf names LoopEnd = ⊤

-- a choice of a member is an object of the game
abbrev pub IsChoiceOf : Names → ℕ × ObjectId → Type 0
IsChoiceOf names choice = (choice.1).0 < object_count names

-- each member that a reading chooses is
abbrev pub IsReadingOf : Names → Reading → Type 0
IsReadingOf names reading = All (IsChoiceOf names) reading.members
