-- What single arguments of a command line give, by the rows that clap matched for them.
use Rattle.std.specs.Prelude.{◌≡◌, ◌≤◌, ◌<◌, ◌==◌, ◌^◌, ◌||◌, ℕ, Bool, true, false, not, List, [], ◌∷◌}
use Rattle.std.specs.Prelude.{Option, Some, None, codes, map, option_map, unwrap_or, IsSomeAnd}
use Rattle.std.specs.Borrow.{Bor}
use Rattle.std.specs.List.{after_first, before_first}
use Rattle.std.specs.Option.{option_map_or}
use Rattle.std.specs.Str.{bytes_eq}
use Rattle.std.specs.Str.Parse.{IsNumeral, digits_value, without_leading_plus}
use Rattle.clap.specs.Words.{Row, Text, all_of, first_of, found_of, rows_of}
use Rattle.clap.specs.declared.parser.matches.ArgMatches.{ArgMatches}
use Rattle.ps_report.specs.declared.details.Format.{Format}
use Rattle.ps_report.specs.declared.details.Format.TheVariants as format
use Rattle.ps_view.specs.declared.sizes.Size.{Size}

-- the rows of a parse
abbrev pub rows_in : ArgMatches → List Row
rows_in matches = rows_of (found_of matches)

-- the text of a word that may be there, and the texts of words
abbrev pub text_of : Option (Bor Text) → Option Text
text_of = option_map (λ word. word.now)

abbrev pub texts_of : List (Bor Text) → List Text
texts_of = map (λ word. word.now)

-- the flag is given: clap reads `true` for it, and `false` for one that isn't
abbrev pub is_given : Text → List Row → Bool
is_given name rows = option_map_or (λ word. bytes_eq word (codes "true")) (first_of name rows) false

-- the further files; none where no word stands after GAME
abbrev pub further_in : List Row → List Text
further_in rows = unwrap_or (all_of (codes "FURTHER") rows) []

-- the files that words name which may be there
abbrev pub files_of : Option (Bor (List (Bor Text))) → List Text
files_of words = unwrap_or (option_map (λ names. texts_of names.now) words) []

-- GAME is this file, and nothing is to be explained
abbrev pub IsGameIn : List Row → Text → Type 0
IsGameIn rows game = (first_of (codes "explain") rows ≡ None) × (first_of (codes "GAME") rows ≡ Some game)

-- the files are GAME, and then these
abbrev pub AreFilesIn : List Row → List Text → List Text → Type 0
AreFilesIn rows further files = option_map (λ game. game ∷ further) (first_of (codes "GAME") rows) ≡ Some files

-- the name `-` is that of standard input
abbrev pub is_input : Text → Bool
is_input name = bytes_eq name (codes "-")

-- the file with keys; none where standard input is named, from which they come anyway
abbrev pub keys_file : Option Text → Option Text
keys_file None = None
keys_file (Some name) = elim (is_input name) [ true ↦ None | false ↦ Some name ]

-- numbers -------------------------------------------------------------------------------------------------------------

-- the word is this number, in decimal digits after which nothing stands, and before which a plus may
abbrev pub IsNumber : Text → ℕ → Type 0
IsNumber word n = IsNumeral 10 (without_leading_plus word) × (n ≡ digits_value 10 (without_leading_plus word))

-- a number from 1
abbrev pub IsCount : Text → ℕ → Type 0
IsCount word n = IsNumber word n × (1 ≤ n)

-- the number of a level, where an option gives one
abbrev pub IsLevelOf : Option Text → Option ℕ → Type 0
IsLevelOf None level = level ≡ None
IsLevelOf (Some word) level = IsSomeAnd level (IsCount word)

-- a number from 1 that an option gives, or else this one
abbrev pub IsCountOr : ℕ → Option Text → ℕ → Type 0
IsCountOr other None n = n ≡ other
IsCountOr other (Some word) n = IsCount word n

-- so many rows, an x (120) and so many columns
abbrev pub IsSizeIn : Text → Size → Type 0
IsSizeIn word size = IsNumber (before_first (λ byte. byte == 120) word) size.rows
    × IsNumber (after_first (λ byte. byte == 120) word) size.columns

-- the size of a terminal, where an option gives one
abbrev pub IsSizeOf : Option Text → Option Size → Type 0
IsSizeOf None size = size ≡ None
IsSizeOf (Some word) size = IsSomeAnd size (IsSizeIn word)

-- forms ---------------------------------------------------------------------------------------------------------------

-- how a form is called
abbrev pub word_of : Format → Text
word_of format.Text = codes "text"
word_of format.Gnu = codes "gnu"
word_of format.Json = codes "json"

-- the form that an option names; lines for people, where there is none
abbrev pub IsFormOf : Option Text → Format → Type 0
IsFormOf None form = form ≡ format.Text
IsFormOf (Some word) form = word ≡ word_of form

-- lines for people, or objects of JSON
abbrev pub form_for : Bool → Format
form_for is_data = elim is_data [ true ↦ format.Json | false ↦ format.Text ]

-- words after GAME, where levels are searched -------------------------------------------------------------------------

-- a word after GAME is the number of a level; or a file, where it is no number that a machine word holds
abbrev pub IsLevelOrFile : Text → Option ℕ → List Text → Type 0
IsLevelOrFile word (Some level) files = IsCount word level × (files ≡ [])
IsLevelOrFile word None files = ¬ (IsNumeral 10 (without_leading_plus word)
    × (digits_value 10 (without_leading_plus word) < 2 ^ 64)) × (files ≡ word ∷ [])

-- the level and the further files, where an option may give a level and these words stand after GAME: one alone may be
-- the number of the level, unless the option gives that
abbrev pub AreWordsToSolve : Option ℕ → List Text → Option ℕ → List Text → Type 0
AreWordsToSolve None (word ∷ []) level files = IsLevelOrFile word level files
AreWordsToSolve given words level files = (level ≡ given) × (files ≡ words)
