-- What is said about an object, in words.
use Rattle.std.specs.Prelude.{ℕ, Option, Some, None, List, [], ◌++◌, codes, encode_utf8}
use Rattle.std.specs.Fmt.{decimal}
use Rattle.ps_causes.specs.declared.causes.NoRow.{NoRow}
use Rattle.ps_causes.specs.declared.causes.ObjectCause.{ObjectCause}
use Rattle.ps_causes.specs.declared.causes.ObjectCause.TheVariants.{RowName, Colourless, ShortSprite}
use Rattle.ps_causes.specs.declared.causes.WhyNoRow.{WhyNoRow}
use Rattle.ps_causes.specs.declared.causes.WhyNoRow.TheVariants.{Blank, Length, Character, Untold}

-- that a row of a sprite is read as a name
abbrev pub row_name_words : List ℕ → List ℕ
row_name_words word =
    codes "`" ++ (word ++ codes "` is read as a name: a sprite has five rows of five points and digits each.")

-- that an object has no colours right below its name
abbrev pub colourless_words : List ℕ → Option ℕ → List ℕ
colourless_words name None = codes "`" ++ (name ++ codes "` needs a line of colours right below its name.")
colourless_words name (Some line) =
    codes "Line " ++ (decimal line ++ (codes " is blank, but the colours of `" ++ (name ++
    codes "` have to be right below its name.")))

-- that a word has not five characters
abbrev pub length_words : List ℕ → ℕ → List ℕ
length_words word count =
    codes ": `" ++ (word ++ (codes "` has " ++ (decimal count ++ codes " characters instead of five.")))

-- that a character of a word stands in no row
abbrev pub character_words : List ℕ → ℕ → List ℕ
character_words word character =
    codes ": `" ++ (encode_utf8 character ++ (codes "` in `" ++ (word ++ codes "` is neither a point nor a digit.")))

-- why a line is no row of a sprite
abbrev pub why_no_row_words : WhyNoRow → List ℕ
why_no_row_words Blank = codes ": it is blank."
why_no_row_words (Length word count) = length_words word.text.now count
why_no_row_words (Character word character) = character_words word.text.now character
why_no_row_words Untold = codes "."

-- that a line is none, after a blank, if there is such a line
abbrev pub no_row_words : Option NoRow → List ℕ
no_row_words None = []
no_row_words (Some below) =
    codes " Line " ++ (decimal below.line ++ (codes " isn't a row" ++ why_no_row_words below.why))

-- that a sprite has too few rows
abbrev pub short_words : List ℕ → ℕ → Option NoRow → List ℕ
short_words name rows below =
    codes "The sprite of `" ++ (name ++ (codes "` has " ++ (decimal rows ++ (codes " of five rows." ++
    no_row_words below))))

-- what is said about an object
abbrev pub object_sentence : ObjectCause → List ℕ
object_sentence (RowName word) = row_name_words word.text.now
object_sentence (Colourless name below) = colourless_words name.text.now below
object_sentence (ShortSprite name rows below) = short_words name.text.now rows below
