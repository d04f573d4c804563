-- What each word of a line of RULES is. Words are compared with their letters folded. Inside a rule a key word is meant
-- also where an object has that name; each other word is a name with what it stands for, or it means nothing.
use Rattle.std.specs.Prelude.{ℕ, ◌+◌, Bool, true, false, not, if◌then◌else◌, Option, Some, None, unwrap_or, List, []}
use Rattle.std.specs.Prelude.{◌∷◌, ◌++◌, map, filter, slice_range, codes}
use Rattle.std.specs.Str.{bytes_eq}
use Rattle.std.specs.Map.{lookup}
use Rattle.ps_model.specs.declared.rules.MovementWord.{MovementWord}
use Rattle.ps_model.specs.declared.rules.MovementWord.TheVariants.{Forwards, Backwards, TurnedLeft, TurnedRight}
use Rattle.ps_model.specs.declared.rules.MovementWord.TheVariants.{Parallel, Perpendicular, Up, Down, Left, Right}
use Rattle.ps_model.specs.declared.rules.MovementWord.TheVariants.{Action, Stationary, Moving, Orthogonal, Horizontal}
use Rattle.ps_model.specs.declared.rules.MovementWord.TheVariants.{Vertical}
use Rattle.ps_model.specs.text.RuleWords.{rule_words_in}
use Rattle.ps_model.specs.text.Lines.{Line, folded}
use Rattle.ps_model.specs.names.Names.{Meaning, Names, meaning_of}

-- a command; `sfx0` to `sfx10` are one, and ask nothing
pub data Command : Type 0 where
  Cancel : Command
  Restart : Command
  Again : Command
  Checkpoint : Command
  Win : Command
  Message : Command
  Sound : Command

-- what a word is
pub data Symbol : Type 0 where
  -- `[`, `]`, `|`, `->`
  Open : Symbol
  Close : Symbol
  Bar : Symbol
  Arrow : Symbol
  -- `...`
  Ellipsis : Symbol
  -- a `+` that is cut off at the start of the line
  Plus : Symbol
  Late : Symbol
  -- `no`
  Without : Symbol
  -- a movement word, which may be a direction word too
  Moves : MovementWord → Symbol
  Asks : Command → Symbol
  -- `startloop`, `endloop`
  StartsLoop : Symbol
  EndsLoop : Symbol
  -- `random`, `randomdir`, `rigid`, which this profile leaves out
  LeftOut : Symbol
  -- a name, with what it stands for
  Called : Meaning → Symbol
  -- none of all these
  Unknown : Symbol

-- the words that give a rule its shape
abbrev pub shape_words : List (List ℕ × Symbol)
shape_words =
    (codes "[", Open) ∷ (codes "]", Close) ∷ (codes "|", Bar) ∷ (codes "->", Arrow) ∷ (codes "...", Ellipsis) ∷
    (codes "late", Late)
    ∷ (codes "no", Without) ∷ (codes "startloop", StartsLoop) ∷ (codes "endloop", EndsLoop) ∷ []

-- the words that say how an object moves
abbrev pub movement_words : List (List ℕ × Symbol)
movement_words =
    (codes ">", Moves Forwards) ∷ (codes "<", Moves Backwards) ∷ (codes "^", Moves TurnedLeft) ∷
    (codes "v", Moves TurnedRight)
    ∷ (codes "parallel", Moves Parallel) ∷ (codes "perpendicular", Moves Perpendicular) ∷ (codes "up", Moves Up) ∷
    (codes "down", Moves Down)
    ∷ (codes "left", Moves Left) ∷ (codes "right", Moves Right) ∷ (codes "action", Moves Action) ∷
    (codes "stationary", Moves Stationary)
    ∷ (codes "moving", Moves Moving) ∷ (codes "orthogonal", Moves Orthogonal) ∷ (codes "horizontal", Moves Horizontal)
    ∷ (codes "vertical", Moves Vertical) ∷ []

-- the commands
abbrev pub command_words : List (List ℕ × Symbol)
command_words =
    (codes "cancel", Asks Cancel) ∷ (codes "restart", Asks Restart) ∷ (codes "again", Asks Again) ∷
    (codes "checkpoint", Asks Checkpoint)
    ∷ (codes "win", Asks Win) ∷ (codes "message", Asks Message)
    ∷ map (λ word. (word, Asks Sound)) (codes "sfx0" ∷ codes "sfx1" ∷ codes "sfx2" ∷ codes "sfx3" ∷ codes "sfx4" ∷
    codes "sfx5"
    ∷ codes "sfx6" ∷ codes "sfx7" ∷ codes "sfx8" ∷ codes "sfx9" ∷ codes "sfx10" ∷ [])

-- the words of PuzzleScript that this profile leaves out
abbrev pub left_out_words : List (List ℕ × Symbol)
left_out_words = (codes "random", LeftOut) ∷ (codes "randomdir", LeftOut) ∷ (codes "rigid", LeftOut) ∷ []

-- the key words of rules
abbrev pub key_words : List (List ℕ × Symbol)
key_words = shape_words ++ (movement_words ++ (command_words ++ left_out_words))

-- a name that stands for something, or for nothing
abbrev pub name_symbol : Option Meaning → Symbol
name_symbol None = Unknown
name_symbol (Some meaning) = Called meaning

-- what a word is: a key word, or else a name
abbrev pub symbol_of : Names → List ℕ → Symbol
symbol_of names word = unwrap_or (lookup (bytes_eq (folded word)) key_words) (name_symbol (meaning_of names word))

-- what the first word of a line is: the `+` that is cut off there, or as elsewhere
abbrev pub first_symbol : Names → List ℕ → Symbol
first_symbol names word = if bytes_eq word (codes "+") then Plus else symbol_of names word

-- a word: the byte of the text at which it begins, and what it is
pub record Token : Type 0 where
  pub at : ℕ
  pub symbol : Symbol

-- the word of a line at its places there, by what a word's bytes are
abbrev pub token_by : (List ℕ → Symbol) → Line → ℕ × ℕ → Token
token_by symbol line word = record { at = line.start + word.0; symbol = symbol (slice_range line.bytes word.0 word.1) }

-- the words of a line of RULES at these places
abbrev pub tokens_at : Names → Line → List (ℕ × ℕ) → List Token
tokens_at names line [] = []
tokens_at names line (first ∷ words) =
    token_by (first_symbol names) line first ∷ map (token_by (symbol_of names) line) words

-- the words of a line of RULES
abbrev pub tokens_of : Names → Line → List Token
tokens_of names line = tokens_at names line (rule_words_in line.bytes)

-- the word is one that this profile leaves out
abbrev pub is_left_out : Symbol → Bool
is_left_out LeftOut = true
is_left_out other = false

-- the words of a line but for those that this profile leaves out: they are as if they weren't there, but for the
-- refusal
abbrev pub tokens_kept : List Token → List Token
tokens_kept tokens = filter (λ token. not (is_left_out token.symbol)) tokens
