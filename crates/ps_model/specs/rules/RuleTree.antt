-- The tree of a rule: its cells with what they ask for on the left and what becomes of them on the right, its
-- directions and its commands.
use Rattle.std.specs.Prelude.{ℕ, Bool, true, false, ◌&&◌, Option, Some, None, option_map, List, [], ◌∷◌, ◌++◌, map}
use Rattle.std.specs.Prelude.{filter, fold}
use Rattle.std.specs.List.{slice_split, list_all, list_any}
use Rattle.ps_model.specs.declared.pieces.Direction.{Direction}
use Rattle.ps_model.specs.declared.pieces.Direction.TheVariants.{Up, Down, Left, Right}
use Rattle.ps_model.specs.declared.rules.MovementWord.TheVariants as word
use Rattle.ps_model.specs.text.Lines.{Line}
use Rattle.ps_model.specs.rules.SourceRules.{Item, Is, No, CellPair, Commands, no_commands, SourceRule}
use Rattle.ps_model.specs.rules.RuleSymbols.{Symbol, Open, Without, Moves, Asks, Called, Cancel, Restart, Again}
use Rattle.ps_model.specs.rules.RuleSymbols.{Checkpoint, Win, Message, Token}
use Rattle.ps_model.specs.rules.RuleShape.{has_kind, is_ellipsis, is_late, is_plus, has_rows, RuleShape, at_end}
use Rattle.ps_model.specs.rules.RuleShape.{paired_rows, paired_cells}

-- items ---------------------------------------------------------------------------------------------------------------

-- the item of a name that stands right after a word
abbrev pub named_item : Symbol → ℕ → Symbol → List Item
named_item (Moves word) at (Called meaning) = Is at (Some word) meaning ∷ []
named_item Without at (Called meaning) = No meaning ∷ []
named_item before at (Called meaning) = Is at None meaning ∷ []
named_item before at other = []

-- the items of words that stand after a word: each name is one, with a movement word or `no` right before it
abbrev pub items_behind : Symbol → List Token → List Item
items_behind before [] = []
items_behind before (token ∷ tokens) = named_item before token.at token.symbol ++ items_behind token.symbol tokens

-- the items of a cell's words
abbrev pub items_of : List Token → List Item
items_of tokens = items_behind Open tokens

-- cells and rows ------------------------------------------------------------------------------------------------------

-- the cell has `...` and nothing else
abbrev pub is_gap : List Token × List Token → Bool
is_gap words = has_kind is_ellipsis words.0 && list_all (λ token. is_ellipsis token.symbol) (words.0 ++ words.1)

-- a cell by its words on the left and on the right
abbrev pub pair_of : List Token × List Token → CellPair
pair_of words = record { left = items_of words.0; right = items_of words.1 }

-- a row, parted by its ellipses
abbrev pub row_of_cells : List (List Token × List Token) → List (List CellPair)
row_of_cells cells = map (λ part. map pair_of part) (slice_split is_gap cells)

-- the rows of a rule
abbrev pub rows_of : RuleShape → List (List (List CellPair))
rows_of shape = map (λ rows. row_of_cells (paired_cells rows)) (paired_rows shape)

-- directions ----------------------------------------------------------------------------------------------------------

-- the word before the rows gives that direction
abbrev pub gives : Direction → Symbol → Bool
gives Up (Moves word.Up) = true
gives Up (Moves word.Vertical) = true
gives Up (Moves word.Orthogonal) = true
gives Down (Moves word.Down) = true
gives Down (Moves word.Vertical) = true
gives Down (Moves word.Orthogonal) = true
gives Left (Moves word.Left) = true
gives Left (Moves word.Horizontal) = true
gives Left (Moves word.Orthogonal) = true
gives Right (Moves word.Right) = true
gives Right (Moves word.Horizontal) = true
gives Right (Moves word.Orthogonal) = true
gives direction other = false

-- the directions in their order
abbrev pub all_directions : List Direction
all_directions = Up ∷ Down ∷ Left ∷ Right ∷ []

-- the word is a direction word
abbrev pub is_direction_word : Symbol → Bool
is_direction_word symbol = list_any (λ direction. gives direction symbol) all_directions

-- the directions that the words before the rows give, always in that order
abbrev pub directions_given : List Token → List Direction
directions_given tokens = filter (λ direction. has_kind (gives direction) tokens) all_directions

-- commands ------------------------------------------------------------------------------------------------------------

-- commands with one more; a message has the text that its line takes as it stands
abbrev pub with_command : Option (List ℕ) → Commands → Symbol → Commands
with_command text commands (Asks Cancel) = record commands { cancel = true }
with_command text commands (Asks Restart) = record commands { restart = true }
with_command text commands (Asks Again) = record commands { again = true }
with_command text commands (Asks Checkpoint) = record commands { checkpoint = true }
with_command text commands (Asks Win) = record commands { win = true }
with_command text commands (Asks Message) = record commands { message = text }
with_command text commands other = commands

-- the text that a line takes as it stands
abbrev pub text_of : Line → Option (List ℕ)
text_of line = option_map (λ taken. taken.bytes) line.taken

-- the commands of a line's words
abbrev pub commands_of : Line → List Token → Commands
commands_of line tokens = fold (λ commands token. with_command (text_of line) commands token.symbol) no_commands tokens

-- the tree ------------------------------------------------------------------------------------------------------------

-- the tree of a line's rule
abbrev pub rule_of : Line → RuleShape → SourceRule
rule_of line shape = record {
  line = line.number;
  late = has_kind is_late shape.left.ahead;
  joined = has_kind is_plus shape.left.ahead;
  directions = directions_given shape.left.ahead;
  rows = rows_of shape;
  rewrites = has_rows shape.right.rows;
  commands = commands_of line (at_end shape.right);
}
