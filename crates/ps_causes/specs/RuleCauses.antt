-- Why a rule has a fault where more words than one say so, and when that is true of the text.
use Rattle.std.specs.Prelude.{◌≡◌, ◌+◌, ◌-◌, ℕ, nat_eq, true, false, Some, List, ◌∷◌, ◌++◌, length, slice_get}
use Rattle.ps_model.specs.declared.texts.Section.TheVariants.{Rules}
use Rattle.ps_model.specs.text.LineNumbers.{line_at, HasLine}
use Rattle.ps_text.specs.declared.cutting.Word.{Word}
use Rattle.ps_causes.specs.declared.causes.Further.{Further}
use Rattle.ps_causes.specs.declared.causes.RuleCause.{RuleCause}
use Rattle.ps_causes.specs.declared.causes.RuleCause.TheVariants.{BrokenArrow, Pair, Several, Unbound, Rows, Cells, GoesOn}
use Rattle.ps_facts.specs.declared.signs.Sign.TheVariants.{Arrow}
use Rattle.ps_facts.specs.Counts.{cell_counts}
use Rattle.ps_causes.specs.GoingOn.{is_part}
use Rattle.ps_causes.specs.Meant.{names_in, meant, is_aggregate_at}
use Rattle.ps_facts.specs.LineWords.{IsWordOf, texts_of}
use Rattle.ps_causes.specs.LineEnds.{IsLastWordOf}
use Rattle.ps_facts.specs.NamesShown.{is_own}
use Rattle.ps_facts.specs.Places.{is_barred}
use Rattle.ps_facts.specs.Signs.{has_sign, is_sign}
use Rattle.ps_causes.specs.Pairs.{IsPair}
use Rattle.ps_causes.specs.Unbound.{IsUnbound}

-- a word of a line that stands after `no`, and for several objects at once, which a line declares
pub record IsSeveral (text : List ℕ) (line : ℕ) (word : Word) (declared : ℕ) : Type 0 where
  pub stands : IsWordOf text line word
  pub before : List (List ℕ)
  pub behind : List (List ℕ)
  pub parts : texts_of text line ≡ before ++ word.text.now ∷ behind
  pub barred : is_barred before ≡ true
  pub several : is_aggregate_at declared (meant (names_in text) word.text.now) ≡ true

-- a word of a line that is the arrow, with these words before it and after it
pub record IsArrowOf (text : List ℕ) (line : ℕ) (arrow : Word) (before behind : List (List ℕ)) : Type 0 where
  pub stands : IsWordOf text line arrow
  pub parts : texts_of text line ≡ before ++ arrow.text.now ∷ behind
  pub sign : is_sign Arrow arrow.text.now ≡ true

-- `left` rows stand before the arrow, and `right` after it, and not equally many
pub record IsRows (text : List ℕ) (line : ℕ) (arrow : Word) (left right : ℕ) : Type 0 where
  pub before : List (List ℕ)
  pub behind : List (List ℕ)
  pub arrow_there : IsArrowOf text line arrow before behind
  pub on_the_left : left ≡ length (cell_counts before)
  pub on_the_right : right ≡ length (cell_counts behind)
  pub differ : nat_eq left right ≡ false

-- the row of a number, from 1, has `left` cells before the arrow, and `right` after it, and not equally many
pub record IsCells (text : List ℕ) (line : ℕ) (arrow : Word) (row left right : ℕ) : Type 0 where
  pub before : List (List ℕ)
  pub behind : List (List ℕ)
  pub arrow_there : IsArrowOf text line arrow before behind
  pub on_the_left : slice_get (cell_counts before) (row - 1) ≡ Some left
  pub on_the_right : slice_get (cell_counts behind) (row - 1) ≡ Some right
  pub differ : nat_eq left right ≡ false

-- two words of a line, the other right before the word, where no word is the arrow
pub record IsBrokenArrow (text : List ℕ) (line : ℕ) (word other : Word) : Type 0 where
  pub stands : IsWordOf text line word
  pub other_stands : IsWordOf text line other
  pub before : List (List ℕ)
  pub behind : List (List ℕ)
  pub parts : texts_of text line ≡ before ++ other.text.now ∷ (word.text.now ∷ behind)
  pub arrowless : has_sign Arrow (texts_of text line) ≡ false

-- the next line, which is one of RULES and no whole rule
pub record IsFurther (text : List ℕ) (line : ℕ) (further : Further) : Type 0 where
  pub next : further.line ≡ line + 1
  pub there : HasLine text further.line
  pub own : is_own Rules (line_at text further.line) ≡ true
  pub part : is_part further.part (texts_of text further.line) ≡ true

-- what is said about a rule is true
abbrev pub IsToldOfRule : List ℕ → ℕ → RuleCause → Type 0
IsToldOfRule text line (Pair word other shared) = IsPair text line word other shared
IsToldOfRule text line (Several word declared) = IsSeveral text line word declared
IsToldOfRule text line (Unbound word times could) = IsUnbound text line word times could
IsToldOfRule text line (Rows arrow left right) = IsRows text line arrow left right
IsToldOfRule text line (Cells arrow row left right) = IsCells text line arrow row left right
IsToldOfRule text line (BrokenArrow word other) = IsBrokenArrow text line word other
IsToldOfRule text line (GoesOn word further) = IsLastWordOf text line word × IsFurther text line further
