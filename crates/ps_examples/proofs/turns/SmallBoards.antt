-- Boards of one layer and rules of few cells, written out for the rows that are worked by hand.
use Rattle.std.proofs.Common.{ℕ, true, List, [], ◌∷◌}
use Rattle.ps_model.specs.declared.pieces.Direction.{Direction}
use Rattle.ps_model.specs.declared.pieces.Motion.TheVariants.{Still}
use Rattle.ps_model.specs.declared.pieces.Slot.{Slot}
use Rattle.ps_model.specs.declared.pieces.Slot.TheVariants.{Bare, Holds}
use Rattle.ps_model.specs.rules.SourceRules.{no_commands}
use Rattle.ps_model.specs.meaning.RuleMeanings.{CellMeaning, RuleMeaning}
use Rattle.ps_model.specs.board.Attempts.{State, same_cell}
use Rattle.ps_examples.proofs.rules.RuleTexts.{object}

-- a cell with that object, and one with none
abbrev pub holding : ℕ → List Slot
holding number = Holds (object number) Still ∷ []

abbrev pub bare : List Slot
bare = Bare ∷ []

-- the cell of a rule that fits one object, and puts another in its place
abbrev pub becomes : ℕ → ℕ → CellMeaning
becomes first second = record { fits = same_cell (holding first); rewritten = λ cell. holding second }

-- a rule without commands
abbrev pub rule_to : Direction → List (List (List CellMeaning)) → RuleMeaning
rule_to direction rows = record { direction = direction; rows = rows; rewrites = true; commands = no_commands }

-- a board with one row of six cells, and a board with one column of six
abbrev pub across : List (List Slot) → State
across cells = record { grid = record { width = 6; height = 1; layers = 1; cells = cells }; queue = no_commands }

abbrev pub upright : List (List Slot) → State
upright cells = record { grid = record { width = 1; height = 6; layers = 1; cells = cells }; queue = no_commands }

-- 3 2 . 1 1 .
abbrev pub before : List (List Slot)
before = holding 3 ∷ holding 2 ∷ bare ∷ holding 1 ∷ holding 1 ∷ bare ∷ []
