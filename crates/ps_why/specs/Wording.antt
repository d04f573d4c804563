-- What is said about a fault, in words.
use Rattle.std.specs.Prelude.{ℕ, nat_eq, true, if◌then◌else◌, List, [], ◌++◌, codes}
use Rattle.std.specs.Prelude.{encode_utf8}
use Rattle.std.specs.Fmt.{decimal, digits}
use Rattle.ps_causes.specs.declared.causes.Blank.{Blank}
use Rattle.ps_causes.specs.declared.causes.Blank.TheVariants.{Space, Tab, CarriageReturn, Comment}
use Rattle.ps_causes.specs.declared.causes.ByteOrder.{ByteOrder}
use Rattle.ps_causes.specs.declared.causes.ByteOrder.TheVariants.{LowFirst, HighFirst}
use Rattle.ps_causes.specs.declared.causes.Clue.{Clue}
use Rattle.ps_causes.specs.declared.causes.Clue.TheVariants as clues
use Rattle.ps_causes.specs.declared.causes.Hint.{Hint}
use Rattle.ps_causes.specs.declared.causes.Hint.TheVariants.{Nothing, Near, Strange, KeyWord, Joins}
use Rattle.ps_causes.specs.declared.causes.Cause.{Cause}
use Rattle.ps_causes.specs.declared.causes.Cause.TheVariants.{Untold, Undeclared, Meaningless, Unlayered, UnknownGlyph}
use Rattle.ps_causes.specs.declared.causes.Cause.TheVariants.{BrokenRow, LateHeader, MissingSection, Twice, Slip}
use Rattle.ps_causes.specs.declared.causes.Cause.TheVariants.{Slashes, LikeHeader, OpenGlyph, BelowLike, Utf16}
use Rattle.ps_causes.specs.declared.causes.Cause.TheVariants.{InRule, InLoop, InWhole, InObject, OnlyCommas}
use Rattle.ps_causes.specs.declared.causes.Cause.TheVariants.{BrokenByte}
use Rattle.ps_why.specs.CharacterCodes.{code_words}
use Rattle.ps_why.specs.GameWording.{loop_sentence, whole_sentence}
use Rattle.ps_why.specs.ObjectWording.{object_sentence}
use Rattle.ps_why.specs.OpenWording.{open_glyph_words}
use Rattle.ps_why.specs.RuleWording.{rule_sentence}
use Rattle.ps_why.specs.SectionNames.{section_name}
use Rattle.ps_why.specs.SlipWords.{slip_words}
use Rattle.std.specs.Str.{bytes_eq}
use Rattle.ps_model.specs.text.Sections.{rank}
use Rattle.ps_model.specs.declared.texts.Section.{Section}

abbrev pub blank_words : Blank → List ℕ
blank_words Space = codes "A space"
blank_words Tab = codes "A tab"
blank_words CarriageReturn = codes "A carriage return"
blank_words Comment = codes "A comment"

-- that a name much like the word is declared
abbrev pub near_words : ℕ → List ℕ → List ℕ
near_words line name = codes " Line " ++ (decimal line ++ (codes " declares `" ++ (name ++ codes "`.")))

-- that a character of the word looks like another
abbrev pub strange_words : ℕ → List ℕ → List ℕ
strange_words character like =
    codes " Its character " ++ (code_words character ++ (codes " looks like " ++ (like ++ codes ".")))

-- that a word is a key word
abbrev pub key_word_words : List ℕ → List ℕ
key_word_words key = codes " `" ++ (key ++ codes "` is a key word.")

-- what is said about a word, after a blank
abbrev pub hint_words : Hint → List ℕ
hint_words Nothing = []
hint_words (Near named) = near_words named.line named.name.now
hint_words (Strange character like) = strange_words character like.now
hint_words (KeyWord key) = key_word_words key.now
hint_words Joins = codes " `and` and `or` join names only in LEGEND."

-- that a word is declared nowhere
abbrev pub undeclared_words : List ℕ → Hint → List ℕ
undeclared_words word hint =
    codes "`" ++ (word ++ (codes "` is declared neither in OBJECTS nor in LEGEND." ++ hint_words hint))

-- that a word of a rule means nothing
abbrev pub meaningless_words : List ℕ → Hint → List ℕ
meaningless_words word hint =
    codes "`" ++ (word ++ (codes "` isn't a key word, and is declared neither in OBJECTS nor in LEGEND."
    ++ hint_words hint))

-- that an object has no layer
abbrev pub unlayered_words : List ℕ → List ℕ
unlayered_words word = codes "No line of COLLISIONLAYERS has `" ++ (word ++ codes "`.")

-- that a character is no name
abbrev pub glyph_words : ℕ → ℕ → List ℕ
glyph_words character column =
    codes "`" ++ (encode_utf8 character ++ (codes "` (" ++ (code_words character ++ (codes ") in column "
    ++ (decimal column ++ codes " is declared neither in OBJECTS nor in LEGEND.")))))

-- that a blank parts a row
abbrev pub broken_words : List ℕ → Blank → List ℕ
broken_words row blank = blank_words blank ++ (codes " splits the row after `" ++ (row ++ codes "`."))

-- that a header stands below one that belongs below it
abbrev pub late_words : Section → ℕ → Section → List ℕ
late_words section above other =
    if nat_eq (rank section) (rank other)
    then codes "Line " ++ (decimal above ++ (codes " already begins " ++ (section_name section ++ codes ".")))
    else section_name section ++ (codes " has to come before " ++ (section_name other ++
    (codes ", which begins on line " ++ (decimal above ++ codes "."))))

-- that a line isn't a header, after a blank
abbrev pub like_words : ℕ → List ℕ
like_words line =
    codes " Line " ++ (decimal line ++ codes " looks like it, but a header has to be that word alone.")

-- that a comment isn't closed, after a blank
abbrev pub open_words : ℕ → List ℕ
open_words line = codes " On line " ++ (decimal line ++ codes ", a `(` begins a comment that nothing closes.")

-- that lines don't end at line feeds, after a blank
abbrev pub returns_words : ℕ → List ℕ
returns_words place =
    codes " Lines have to end with line feeds: byte " ++ (decimal place ++
    codes " is a carriage return, which is a blank.")

-- that a byte is zero, after a blank
abbrev pub zero_words : ℕ → List ℕ
zero_words place =
    codes " Byte " ++ (decimal place ++ codes " of the text is zero, as in UTF-16: save the text as UTF-8.")

-- that a text is empty, and what a game needs, after a blank
abbrev pub empty_words : List ℕ
empty_words =
    codes " The text is empty: a game needs OBJECTS with Background and Player, COLLISIONLAYERS, and LEVELS with a level."

-- what a section that isn't there may come from, after a blank
abbrev pub clue_words : Clue → List ℕ
clue_words clues.Nothing = []
clue_words clues.Empty = empty_words
clue_words (clues.Like line) = like_words line
clue_words (clues.Open line) = open_words line
clue_words (clues.Returns place) = returns_words place
clue_words (clues.Zero place) = zero_words place

-- that a section isn't there
abbrev pub missing_words : Section → Clue → List ℕ
missing_words section clue = codes "There is no header " ++ (section_name section ++ (codes "." ++ clue_words clue))

-- that names are one which are written otherwise
abbrev pub case_words : List ℕ → List ℕ → List ℕ
case_words word name = if bytes_eq name word then [] else codes ": upper and lower case are the same"

-- that a word is declared above
abbrev pub twice_words : List ℕ → ℕ → List ℕ → List ℕ
twice_words word line name =
    codes "Line " ++ (decimal line ++ (codes " already declares `" ++ (name ++ (codes "`" ++
    (case_words word name ++ codes ".")))))

-- that a byte is in no whole character
abbrev pub broken_byte_words : ℕ → ℕ → List ℕ
broken_byte_words place byte =
    codes "Byte " ++ (decimal place ++ (codes " of the text, " ++ (digits 16 true byte ++
    codes " in hexadecimal, isn't part of a UTF-8 character: save the text as UTF-8.")))

-- that a comment begins otherwise
abbrev pub slashes_words : List ℕ → List ℕ
slashes_words word =
    codes "Comments are written between `(` and `)`: `" ++ (word ++ codes "` doesn't begin one.")

-- that a line is no header
abbrev pub like_header_words : Section → List ℕ
like_header_words section =
    codes "This line looks like the header " ++ (section_name section ++ codes ", which has to be that word alone.")

-- that a line stands below one that is no header
abbrev pub below_like_words : Section → ℕ → List ℕ
below_like_words section above =
    codes "Line " ++ (decimal above ++ (codes " looks like the header " ++ (section_name section ++
    codes ", but isn't that word alone: so this line is still in OBJECTS.")))

-- that a text is in UTF-16
abbrev pub utf16_words : ByteOrder → List ℕ
utf16_words LowFirst = codes "The text begins with the bytes FF FE, as UTF-16 does: save it as UTF-8."
utf16_words HighFirst = codes "The text begins with the bytes FE FF, as UTF-16 does: save it as UTF-8."

-- that a line has no name
abbrev pub commas_words : List ℕ
commas_words = codes "A line of COLLISIONLAYERS has names, separated by commas or blanks: this one has only commas."

-- what is said about a fault
abbrev pub sentence : Cause → List ℕ
sentence Untold = []
sentence (Undeclared word hint) = undeclared_words word.text.now hint
sentence (Meaningless word hint) = meaningless_words word.text.now hint
sentence (Unlayered word) = unlayered_words word.text.now
sentence (UnknownGlyph row character column) = glyph_words character column
sentence (BrokenRow row blank) = broken_words row.text.now blank
sentence (LateHeader header section above other) = late_words section above other
sentence (MissingSection section clue) = missing_words section clue
sentence (Twice word first) = twice_words word.text.now first.line first.name.now
sentence (Slashes word) = slashes_words word.text.now
sentence (LikeHeader word section) = like_header_words section
sentence (Slip word slip) = slip_words slip word.text.now
sentence (InRule cause) = rule_sentence cause
sentence (InLoop cause) = loop_sentence cause
sentence (InWhole cause) = whole_sentence cause
sentence (InObject cause) = object_sentence cause
sentence (OnlyCommas place) = commas_words
sentence (BrokenByte place byte) = broken_byte_words place byte
sentence (OpenGlyph row character column open_name) = open_glyph_words character column open_name
sentence (BelowLike word section above) = below_like_words section above
sentence (Utf16 order) = utf16_words order
