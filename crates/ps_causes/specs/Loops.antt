-- Loops that begin within others, end without a beginning, or don't end.
use Rattle.std.specs.Prelude.{◌≡◌, ◌≤◌, ◌<◌, ◌+◌, ℕ, Bool, true, false, ◌&&◌, ◌||◌, Option, Some, None, IfSome, List}
use Rattle.std.specs.Prelude.{[], ◌∷◌, length}
use Rattle.ps_model.specs.declared.texts.Section.TheVariants.{Rules}
use Rattle.ps_model.specs.text.LineNumbers.{line_at, HasLine}
use Rattle.ps_model.specs.text.Lines.{lines_of}
use Rattle.ps_text.specs.declared.cutting.Word.{Word}
use Rattle.ps_facts.specs.declared.signs.Sign.{Sign}
use Rattle.ps_facts.specs.declared.signs.Sign.TheVariants.{LoopStart, LoopEnd}
use Rattle.ps_facts.specs.LineWords.{IsWordOf, texts_of}
use Rattle.ps_facts.specs.NamesShown.{is_own}
use Rattle.ps_facts.specs.Signs.{is_sign}
use Rattle.ps_causes.specs.declared.causes.LoopCause.{LoopCause}
use Rattle.ps_causes.specs.declared.causes.LoopCause.TheVariants.{Nested, Unbegun, Unended}

-- the words are that sign alone
abbrev pub are_alone : Sign → List (List ℕ) → Bool
are_alone sign [] = false
are_alone sign (word ∷ []) = is_sign sign word
are_alone sign (word ∷ other ∷ others) = false

-- a line of RULES is that sign alone
abbrev pub is_line_of : Sign → List ℕ → ℕ → Bool
is_line_of sign text line = is_own Rules (line_at text line) && are_alone sign (texts_of text line)

-- a line begins or ends a loop
abbrev pub is_loop_line : List ℕ → ℕ → Bool
is_loop_line text line = is_line_of LoopStart text line || is_line_of LoopEnd text line

-- no line from a number to before another passes the test
abbrev pub NoneBetween : (ℕ → Bool) → ℕ → ℕ → Type 0
NoneBetween test from to = (k : ℕ) → from ≤ k → k < to → test k ≡ false

-- the number of the line after one, if there is one; else of the first
abbrev pub behind : Option ℕ → ℕ
behind None = 1
behind (Some line) = line + 1

-- the last line above a line that begins or ends a loop, if there is one
pub record IsLastAbove (text : List ℕ) (line : ℕ) (last : Option ℕ) : Type 0 where
  pub there : IfSome last (HasLine text)
  pub above : IfSome last (λ number. number < line)
  pub of_loop : IfSome last (λ number. is_loop_line text number ≡ true)
  pub none_below : NoneBetween (is_loop_line text) (behind last) line

-- a `startloop` below another one, with no such line between them
pub record IsNested (text : List ℕ) (line : ℕ) (word : Word) (open_line : ℕ) : Type 0 where
  pub stands : IsWordOf text line word
  pub begins : is_sign LoopStart word.text.now ≡ true
  pub opened : is_line_of LoopStart text open_line ≡ true
  pub last : IsLastAbove text line (Some open_line)

-- an `endloop` below another one, or below none
pub record IsUnbegun (text : List ℕ) (line : ℕ) (word : Word) (ended : Option ℕ) : Type 0 where
  pub stands : IsWordOf text line word
  pub ends : is_sign LoopEnd word.text.now ≡ true
  pub ended_there : IfSome ended (λ number. is_line_of LoopEnd text number ≡ true)
  pub last : IsLastAbove text line ended

-- a `startloop` without `endloop` below it
pub record IsUnended (text : List ℕ) (line : ℕ) (word : Word) : Type 0 where
  pub stands : IsWordOf text line word
  pub begins : is_sign LoopStart word.text.now ≡ true
  pub endless : NoneBetween (is_line_of LoopEnd text) (line + 1) (length (lines_of text) + 1)

-- what is said about a loop is true
abbrev pub IsToldOfLoop : List ℕ → ℕ → LoopCause → Type 0
IsToldOfLoop text line (Nested word open_line) = IsNested text line word open_line
IsToldOfLoop text line (Unbegun word ended) = IsUnbegun text line word ended
IsToldOfLoop text line (Unended word) = IsUnended text line word
