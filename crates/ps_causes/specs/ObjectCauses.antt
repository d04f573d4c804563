-- Why an object has a fault, and when that is true of the text.
use Rattle.std.specs.Prelude.{◌≡◌, ◌≤◌, ℕ, nat_eq, ⊤, false, true, Option, Some, None, IfSome, List, [], length, drop}
use Rattle.std.specs.Prelude.{slice_get}
use Rattle.std.specs.List.{IsAmong}
use Rattle.std.specs.Str.{chars}
use Rattle.ps_model.specs.names.ObjectLines.{is_sprite_byte, sprite_rows}
use Rattle.ps_model.specs.text.LineNumbers.{line_at}
use Rattle.ps_model.specs.text.Lines.{is_blank_line}
use Rattle.ps_model.specs.declared.texts.Section.TheVariants.{Objects}
use Rattle.ps_text.specs.declared.cutting.Word.{Word}
use Rattle.ps_causes.specs.LineEnds.{IsFirstWordOf}
use Rattle.ps_causes.specs.declared.causes.NoRow.{NoRow}
use Rattle.ps_causes.specs.declared.causes.ObjectCause.{ObjectCause}
use Rattle.ps_causes.specs.declared.causes.ObjectCause.TheVariants.{RowName, Colourless, ShortSprite}
use Rattle.ps_causes.specs.declared.causes.WhyNoRow.{WhyNoRow}
use Rattle.ps_causes.specs.declared.causes.WhyNoRow.TheVariants.{Blank, Length, Character, Untold}
use Rattle.ps_facts.specs.Declarations.{IsDeclaredAt}
use Rattle.ps_facts.specs.LineWords.{IsWordOf}
use Rattle.ps_facts.specs.NamesShown.{is_own}
use Rattle.ps_facts.specs.SpriteLines.{IsOtherLine, lines_under}

-- how many characters a row of a sprite has
abbrev pub row_length : ℕ
row_length = 5

-- why a line is no row of a sprite
abbrev pub IsWhyNoRow : List ℕ → ℕ → WhyNoRow → Type 0
IsWhyNoRow text line Blank = is_blank_line (line_at text line) ≡ true
IsWhyNoRow text line (Length word count) =
    IsWordOf text line word × ((count ≡ length (chars word.text.now)) × (nat_eq count row_length ≡ false))
IsWhyNoRow text line (Character word character) =
    IsWordOf text line word × (IsAmong (chars word.text.now) character × (is_sprite_byte character ≡ false))
IsWhyNoRow text line Untold = ⊤

-- a line of OBJECTS that is no row of a sprite, and why
pub record IsNoRow (text : List ℕ) (below : NoRow) : Type 0 where
  pub other : IsOtherLine text below.line
  pub true_why : IsWhyNoRow text below.line below.why

-- the first line of OBJECTS below a line is that, and blank; or there is none
abbrev pub IsColourless : List ℕ → ℕ → Option ℕ → Type 0
IsColourless text line None = lines_under text line ≡ []
IsColourless text line (Some below) =
    (slice_get (lines_under text line) 0 ≡ Some (line_at text below)) × (is_blank_line (line_at text below) ≡ true)

-- `rows` rows of a sprite, one to four, stand below the first line of OBJECTS below a line, and then a line that is none
pub record IsShortSprite (text : List ℕ) (line rows : ℕ) (below : Option NoRow) : Type 0 where
  pub counted : rows ≡ sprite_rows (drop 1 (lines_under text line))
  pub some : 1 ≤ rows
  pub few : rows ≤ 4
  pub other : IfSome below (IsNoRow text)

-- the first word of a line of OBJECTS
abbrev pub IsObjectName : List ℕ → ℕ → Word → Type 0
IsObjectName text line name = IsFirstWordOf text line name × (is_own Objects (line_at text line) ≡ true)

-- what is said about an object is true
abbrev pub IsToldOfObject : List ℕ → ℕ → ObjectCause → Type 0
IsToldOfObject text line (RowName word) = IsWordOf text line word × IsDeclaredAt text line word.text.now
IsToldOfObject text line (Colourless name below) = IsObjectName text line name × IsColourless text line below
IsToldOfObject text line (ShortSprite name rows below) = IsObjectName text line name × IsShortSprite text line rows below
