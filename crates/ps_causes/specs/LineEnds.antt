-- The first and the last word of a line.
use Rattle.std.specs.Prelude.{◌≡◌, ◌-◌, ℕ, List, Some, length, slice_get}
use Rattle.ps_text.specs.declared.cutting.Word.{Word}
use Rattle.ps_facts.specs.LineWords.{IsWordOf, texts_of}

-- a word of a line, before which no other one stands
pub record IsFirstWordOf (text : List ℕ) (line : ℕ) (word : Word) : Type 0 where
  pub stands : IsWordOf text line word
  pub first : slice_get (texts_of text line) 0 ≡ Some word.text.now

-- a word of a line, after which no other one comes
pub record IsLastWordOf (text : List ℕ) (line : ℕ) (word : Word) : Type 0 where
  pub stands : IsWordOf text line word
  pub last : slice_get (texts_of text line) (length (texts_of text line) - 1) ≡ Some word.text.now
