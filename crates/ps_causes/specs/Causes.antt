-- What is said about a fault, and when that is true of the text.
use Rattle.std.specs.Prelude.{◌≡◌, ◌≤◌, ◌<◌, ℕ, nat_eq, ◌-◌, Bool, false, true, ◌&&◌, ⊤, Some}
use Rattle.std.specs.Prelude.{List, [], ◌∷◌, ◌++◌, codes}
use Rattle.std.specs.Prelude.{slice_get, encode_utf8, slice_index_or}
use Rattle.std.specs.List.{IsAmong, list_any, starts_with}
use Rattle.std.specs.Str.{bytes_eq, chars}
use Rattle.std.specs.Str.Lossy.{utf8_valid_len}
use Rattle.ps_model.specs.declared.texts.Section.{Section}
use Rattle.ps_model.specs.declared.texts.Section.TheVariants.{Prelude, Objects, Legend, Sounds, Layers, Rules, Wins}
use Rattle.ps_model.specs.declared.texts.Section.TheVariants.{Levels}
use Rattle.ps_model.specs.text.LineNumbers.{line_at, HasLine}
use Rattle.ps_model.specs.text.Lines.{Line, lines_of, folded}
use Rattle.ps_model.specs.text.Sections.{rank, header_lines, has_section}
use Rattle.ps_model.specs.text.TextFaults.{line_of_place}
use Rattle.ps_text.specs.declared.cutting.Word.{Word}
use Rattle.ps_causes.specs.declared.causes.Blank.{Blank}
use Rattle.ps_causes.specs.declared.causes.Blank.TheVariants.{Space, Tab, CarriageReturn, Comment}
use Rattle.ps_causes.specs.declared.causes.ByteOrder.{ByteOrder}
use Rattle.ps_causes.specs.declared.causes.ByteOrder.TheVariants.{LowFirst, HighFirst}
use Rattle.ps_causes.specs.declared.causes.Clue.{Clue}
use Rattle.ps_causes.specs.declared.causes.Hint.{Hint}
use Rattle.ps_causes.specs.declared.causes.Hint.TheVariants.{Nothing, Near, Strange, KeyWord, Joins}
use Rattle.ps_causes.specs.declared.causes.Cause.{Cause}
use Rattle.ps_causes.specs.declared.causes.Cause.TheVariants.{Untold, Undeclared, Meaningless, Unlayered, UnknownGlyph}
use Rattle.ps_causes.specs.declared.causes.Cause.TheVariants.{BrokenRow, LateHeader, MissingSection, Twice, Slip}
use Rattle.ps_causes.specs.declared.causes.Cause.TheVariants.{Slashes, LikeHeader, OpenGlyph, BelowLike, Utf16}
use Rattle.ps_causes.specs.declared.causes.Cause.TheVariants.{InRule, InLoop, InWhole, InObject, OnlyCommas, BrokenByte}
use Rattle.ps_facts.specs.declared.names.Named.{Named}
use Rattle.ps_facts.specs.declared.slips.Slip as slips
use Rattle.ps_causes.specs.Clues.{IsClue}
use Rattle.ps_causes.specs.LikeHeaders.{header_word, IsLikeHeaderOf}
use Rattle.ps_facts.specs.Declarations.{Declared, declared, is_declared, is_one_of, IsDeclaredAt}
use Rattle.ps_facts.specs.KeyWords.{is_key_word, is_plain_key_word}
use Rattle.ps_facts.specs.LayerWords.{is_in_layers}
use Rattle.ps_facts.specs.LineWords.{IsWordOf, texts_of}
use Rattle.ps_facts.specs.NamesShown.{is_own}
use Rattle.ps_facts.specs.Near.{IsNear}
use Rattle.ps_causes.specs.ObjectCauses.{IsToldOfObject}
use Rattle.ps_causes.specs.OpenGlyphs.{IsOpenGlyph}
use Rattle.ps_causes.specs.Loops.{IsToldOfLoop}
use Rattle.ps_causes.specs.RuleCauses.{IsToldOfRule}
use Rattle.ps_causes.specs.WholeCauses.{IsToldOfWhole}
use Rattle.ps_facts.specs.Slips.{section_of, has_slip}

-- words ---------------------------------------------------------------------------------------------------------------

-- `and` or `or`
abbrev pub joins_names : List ℕ → Bool
joins_names word = list_any (bytes_eq (folded word)) (codes "and" ∷ codes "or" ∷ [])

-- hints ---------------------------------------------------------------------------------------------------------------

-- what is said about a word is true
abbrev pub IsHint : List ℕ → List ℕ → Hint → Type 0
IsHint text word Nothing = ⊤
IsHint text word (Near named) = IsDeclaredAt text named.line named.name.now × IsNear word named.name.now
IsHint text word (Strange character like) = IsAmong (chars word) character × (128 ≤ character)
IsHint text word (KeyWord key) = (is_plain_key_word key.now ≡ true) × IsNear word key.now
IsHint text word Joins = joins_names word ≡ true

-- causes --------------------------------------------------------------------------------------------------------------

-- a word of the line that is declared nowhere
pub record IsUndeclared (text : List ℕ) (line : ℕ) (word : Word) (hint : Hint) : Type 0 where
  pub stands : IsWordOf text line word
  pub undeclared : is_declared text word.text.now ≡ false
  pub true_hint : IsHint text word.text.now hint

-- a word of the line that is no key word, and declared nowhere
pub record IsMeaningless (text : List ℕ) (line : ℕ) (word : Word) (hint : Hint) : Type 0 where
  pub nowhere : IsUndeclared text line word hint
  pub no_key_word : is_key_word word.text.now ≡ false

-- a name of the line that stands in no line of COLLISIONLAYERS
pub record IsUnlayered (text : List ℕ) (line : ℕ) (word : Word) : Type 0 where
  pub stands : IsWordOf text line word
  pub unlayered : is_in_layers text word.text.now ≡ false

-- each character before that place is among the names
abbrev pub AreNamesBefore : List Declared → List ℕ → ℕ → Type 0
AreNamesBefore names characters at =
    (k : ℕ) → k < at → is_one_of names (encode_utf8 (slice_index_or characters k 0)) ≡ true

-- the first character of a row that is no name
pub record IsUnknownGlyph (text : List ℕ) (line : ℕ) (row : Word) (character column : ℕ) : Type 0 where
  pub stands : IsWordOf text line row
  pub counted : 1 ≤ column
  pub place : slice_get (chars row.text.now) (column - 1) ≡ Some character
  pub undeclared : is_declared text (encode_utf8 character) ≡ false
  pub first : AreNamesBefore (declared text) (chars row.text.now) (column - 1)

-- the byte that begins a blank of that kind
abbrev pub byte_of : Blank → ℕ
byte_of Space = 32
byte_of Tab = 9
byte_of CarriageReturn = 13
byte_of Comment = 40

-- a blank right after a word of the line, which isn't its last
pub record IsBrokenRow (text : List ℕ) (line : ℕ) (row : Word) (blank : Blank) : Type 0 where
  pub stands : IsWordOf text line row
  pub further : Word
  pub follows : IsWordOf text line further
  pub behind : row.span.end < further.span.start
  pub parts : slice_index_or text row.span.end 0 ≡ byte_of blank

-- each header above the one line is of a section before that of the other
abbrev pub AreHeadersBefore : List ℕ → ℕ → ℕ → Type 0
AreHeadersBefore text line above =
    (other : ℕ) → 1 ≤ other → other < above → (line_at text other).is_header ≡ true →
    rank (line_at text other).section < rank (line_at text line).section

-- a line above is a header of the same section or of a later one, the first such line
pub record IsLaterHeader (text : List ℕ) (line above : ℕ) : Type 0 where
  pub there : HasLine text above
  pub higher : above < line
  pub header : (line_at text above).is_header ≡ true
  pub later : rank (line_at text line).section ≤ rank (line_at text above).section
  pub first : AreHeadersBefore text line above

-- the line is a header, one stands above that belongs below it, and these are their sections
pub record IsLateHeader (text : List ℕ) (line : ℕ) (header : Word) (section : Section) (above : ℕ) (other : Section) :
    Type 0 where
  pub stands : IsWordOf text line header
  pub own : (line_at text line).section ≡ section
  pub below : IsLaterHeader text line above
  pub belongs_below : (line_at text above).section ≡ other

-- the line begins the section
abbrev pub begins : Section → Line → Bool
begins section line = line.is_header && nat_eq (rank section) (rank line.section)

-- a game needs the section
abbrev pub is_needed : Section → Bool
is_needed Objects = true
is_needed Layers = true
is_needed Levels = true
is_needed Prelude = false
is_needed Legend = false
is_needed Sounds = false
is_needed Rules = false
is_needed Wins = false

-- each section is there that a game needs and that comes before this one
abbrev pub AreThereBefore : List ℕ → Section → Type 0
AreThereBefore text section =
    (other : Section) → is_needed other ≡ true → rank other < rank section →
    has_section (header_lines (lines_of text)) other ≡ true

-- no line is a header of the section, which a game needs, the first such section
pub record IsMissing (text : List ℕ) (section : Section) (clue : Clue) : Type 0 where
  pub needed : is_needed section ≡ true
  pub missing : has_section (header_lines (lines_of text)) section ≡ false
  pub first : AreThereBefore text section
  pub true_clue : IsClue text section clue

-- the byte at that place, from 1, is the first in no whole character
pub record IsBrokenByte (text : List ℕ) (place byte : ℕ) : Type 0 where
  pub counted : 1 ≤ place
  pub first : utf8_valid_len text ≡ place - 1
  pub there : slice_get text (place - 1) ≡ Some byte

-- a word of the line is declared above it
pub record IsTwice (text : List ℕ) (line : ℕ) (word : Word) (first : Named) : Type 0 where
  pub stands : IsWordOf text line word
  pub declared_there : IsDeclaredAt text first.line first.name.now
  pub above : first.line < line
  pub same : bytes_eq (folded word.text.now) (folded first.name.now) ≡ true

-- a word of the line begins with `//`
pub record IsSlashes (text : List ℕ) (line : ℕ) (word : Word) : Type 0 where
  pub stands : IsWordOf text line word
  pub slashes : starts_with nat_eq word.text.now (47 ∷ 47 ∷ []) ≡ true

-- a word of a line that is no header, but written much like that of a section, where no line is a header of it
pub record IsLikeHeader (text : List ℕ) (line : ℕ) (word : Word) (section : Section) : Type 0 where
  pub stands : IsWordOf text line word
  pub like : IsLikeHeaderOf text (header_word section) line
  pub missing : has_section (header_lines (lines_of text)) section ≡ false

-- a word of a line of OBJECTS below one that is written much like the header of a section. That is no header, and no
-- other line is one of the section
pub record IsBelowLike (text : List ℕ) (line : ℕ) (word : Word) (section : Section) (above : ℕ) : Type 0 where
  pub stands : IsWordOf text line word
  pub own : is_own Objects (line_at text line) ≡ true
  pub below : above < line
  pub like : IsLikeHeaderOf text (header_word section) above
  pub missing : has_section (header_lines (lines_of text)) section ≡ false

-- the two bytes with which a text in UTF-16 begins
abbrev pub bytes_of_order : ByteOrder → List ℕ
bytes_of_order LowFirst = 255 ∷ 254 ∷ []
bytes_of_order HighFirst = 254 ∷ 255 ∷ []

-- the text begins with them
abbrev pub IsUtf16 : List ℕ → ByteOrder → Type 0
IsUtf16 text order = starts_with nat_eq text (bytes_of_order order) ≡ true

-- a word of a line of its section that stands where it can't
pub record IsSlip (text : List ℕ) (line : ℕ) (word : Word) (slip : slips.Slip) : Type 0 where
  pub stands : IsWordOf text line word
  pub own : is_own (section_of slip) (line_at text line) ≡ true
  pub before : List (List ℕ)
  pub behind : List (List ℕ)
  pub parts : texts_of text line ≡ before ++ word.text.now ∷ behind
  pub holds : has_slip slip before word.text.now behind ≡ true

-- a line of COLLISIONLAYERS has no word, and a comma stands in it at that place of the text, from 1
pub record AreOnlyCommas (text : List ℕ) (line place : ℕ) : Type 0 where
  pub own : is_own Layers (line_at text line) ≡ true
  pub nameless : texts_of text line ≡ []
  pub counted : 1 ≤ place
  pub comma : slice_get text (place - 1) ≡ Some 44
  pub in_line : line_of_place text (place - 1) ≡ line

-- what is said about a line is true of the text
abbrev pub IsToldAt : List ℕ → ℕ → Cause → Type 0
IsToldAt text line Untold = ⊤
IsToldAt text line (Undeclared word hint) = IsUndeclared text line word hint
IsToldAt text line (Meaningless word hint) = IsMeaningless text line word hint
IsToldAt text line (Unlayered word) = IsUnlayered text line word
IsToldAt text line (UnknownGlyph row character column) = IsUnknownGlyph text line row character column
IsToldAt text line (BrokenRow row blank) = IsBrokenRow text line row blank
IsToldAt text line (LateHeader header section above other) = IsLateHeader text line header section above other
IsToldAt text line (MissingSection section clue) = IsMissing text section clue
IsToldAt text line (Twice word first) = IsTwice text line word first
IsToldAt text line (Slashes word) = IsSlashes text line word
IsToldAt text line (LikeHeader word section) = IsLikeHeader text line word section
IsToldAt text line (Slip word slip) = IsSlip text line word slip
IsToldAt text line (InRule cause) = IsToldOfRule text line cause
IsToldAt text line (InLoop cause) = IsToldOfLoop text line cause
IsToldAt text line (InWhole cause) = IsToldOfWhole text line cause
IsToldAt text line (InObject cause) = IsToldOfObject text line cause
IsToldAt text line (OnlyCommas place) = AreOnlyCommas text line place
IsToldAt text line (BrokenByte place byte) = IsBrokenByte text place byte
IsToldAt text line (OpenGlyph row character column open_name) = IsOpenGlyph text line row character column open_name
IsToldAt text line (BelowLike word section above) = IsBelowLike text line word section above
IsToldAt text line (Utf16 order) = IsUtf16 text order
