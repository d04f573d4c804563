-- The rules of a game as they are written, as trees. A rule has rows of cells, each cell what stands in it on the left
-- and on the right of the arrow; and commands.
use Rattle.std.specs.Prelude.{ℕ, Bool, false, Option, None, List}
use Rattle.ps_model.specs.declared.pieces.Direction.{Direction}
use Rattle.ps_model.specs.declared.rules.MovementWord.{MovementWord}
use Rattle.ps_model.specs.names.Names.{Meaning}

-- an item of a cell: a name, with a movement word or without one; or `no` and a name. The number of a name is the byte
-- of the text at which its word stands: it tells the occurrences of one name apart
pub data Item : Type 0 where
  Is : ℕ → Option MovementWord → Meaning → Item
  No : Meaning → Item

-- a cell of a rule, by its items on the left and on the right
pub record CellPair : Type 0 where
  pub left : List Item
  pub right : List Item

-- what a rule asks of the turn besides rewriting; `sfx0` to `sfx10` ask nothing
pub record Commands : Type 0 where
  pub cancel : Bool
  pub restart : Bool
  pub again : Bool
  pub checkpoint : Bool
  pub win : Bool
  pub message : Option (List ℕ)

-- a rule that asks nothing
abbrev pub no_commands : Commands
no_commands = record { cancel = false; restart = false; again = false; checkpoint = false; win = false; message = None }

-- a rule
pub record SourceRule : Type 0 where
  pub line : ℕ
  pub late : Bool
  -- `+` puts it in the group of the rule before
  pub joined : Bool
  -- the directions that its direction words give, in the order up, down, left, right; none where it has no such word
  pub directions : List Direction
  -- its rows; a row is a list of parts, parted by its ellipses, and a part is a list of cells
  pub rows : List (List (List CellPair))
  -- it has rows on the right; without them the right is commands alone, and each cell's right is empty
  pub rewrites : Bool
  pub commands : Commands

-- a line of RULES: a rule, or the start or the end of a loop
pub data RuleLine : Type 0 where
  Rule : SourceRule → RuleLine
  LoopStart : RuleLine
  LoopEnd : RuleLine
