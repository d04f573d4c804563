-- The lines of a text. A line ends at a line feed; a last line feed begins no further line. A comment begins at `(` and
-- ends at its `)`, comments nest, and what stands in one reads as blanks. Each line has the section that it stands in:
-- the one of the last header at or above it, or the prelude. In three places the rest of a line is a text that is taken
-- as it stands.
use Rattle.std.specs.Prelude.{ℕ, suc, ◌+◌, ◌-◌, ◌==◌, nat_eq, nat_lt, Bool, ◌&&◌, ◌||◌, not, if◌then◌else◌, Option}
use Rattle.std.specs.Prelude.{Some, None, unwrap_or, is_some, option_map, List, [], ◌∷◌, ◌++◌, length, take, drop}
use Rattle.std.specs.Prelude.{reverse, replicate, fold, find, slice_index_or, slice_range, codes}
use Rattle.std.specs.List.{slice_split, starts_with, prefix_len, list_all, list_any}
use Rattle.std.specs.Str.{bytes_eq, str_to_ascii_lowercase}
use Rattle.std.specs.Map.{lookup}
use Rattle.ps_model.specs.declared.texts.Section.{Section}
use Rattle.ps_model.specs.declared.texts.Section.TheVariants.{Prelude, Objects, Legend, Sounds, Layers, Rules, Wins}
use Rattle.ps_model.specs.declared.texts.Section.TheVariants.{Levels}
use Rattle.ps_model.specs.declared.texts.Cut.TheVariants.{Blanks}
use Rattle.ps_model.specs.text.Words.{is_blank, word_texts, words_in}
use Rattle.ps_model.specs.text.RuleWords.{rule_words_in}

-- names as they are compared ------------------------------------------------------------------------------------------

-- a name or key word as it is compared: ASCII letters folded, all others as they stand
abbrev pub folded : List ℕ → List ℕ
folded name = str_to_ascii_lowercase name

-- raw lines -----------------------------------------------------------------------------------------------------------

-- the byte is a line feed
abbrev pub is_line_feed : ℕ → Bool
is_line_feed byte = byte == 10

-- the length of the byte order mark at the start, if there is one
abbrev pub mark_length : List ℕ → ℕ
mark_length text = if starts_with nat_eq text (239 ∷ 187 ∷ 191 ∷ []) then 3 else 0

-- lines without a last one that is empty
abbrev pub without_empty_end : List (List ℕ) → List (List ℕ)
without_empty_end [] = []
without_empty_end ([] ∷ []) = []
without_empty_end ((byte ∷ bytes) ∷ []) = (byte ∷ bytes) ∷ []
without_empty_end (line ∷ next ∷ others) = line ∷ without_empty_end (next ∷ others)

-- a first line is there also where it is empty; a line after it that is empty and the last isn't one
abbrev pub as_lines : List (List ℕ) → List (List ℕ)
as_lines [] = []
as_lines (first ∷ others) = first ∷ without_empty_end others

-- the bytes of each line
abbrev pub raw_lines : List ℕ → List (List ℕ)
raw_lines bytes = as_lines (slice_split is_line_feed bytes)

-- comments ------------------------------------------------------------------------------------------------------------

-- how many comments are open after a byte, where `depth` are before it; a `)` outside a comment is an ordinary
-- character
abbrev pub depth_behind : ℕ → ℕ → ℕ
depth_behind depth byte = if byte == 40 then suc depth else (if byte == 41 then depth - 1 else depth)

-- the byte stands in a comment, its parentheses among it
abbrev pub in_comment : ℕ → ℕ → Bool
in_comment depth byte = nat_lt 0 depth || byte == 40

-- bytes before which `depth` comments are open, with a blank for each that stands in a comment
abbrev pub without_comments : ℕ → List ℕ → List ℕ
without_comments depth [] = []
without_comments depth (byte ∷ bytes) =
    (if in_comment depth byte then 32 else byte) ∷ without_comments (depth_behind depth byte) bytes

-- headers -------------------------------------------------------------------------------------------------------------

-- the section that each header begins, by its word with letters folded
abbrev pub headers : List (List ℕ × Section)
headers =
    (codes "objects", Objects) ∷ (codes "legend", Legend) ∷ (codes "sounds", Sounds) ∷ (codes "collisionlayers", Layers)
    ∷ (codes "rules", Rules) ∷ (codes "winconditions", Wins) ∷ (codes "levels", Levels) ∷ []

-- the section that a line's words begin, if they are one word and that is a header's
abbrev pub header_of_words : List (List ℕ) → Option Section
header_of_words [] = None
header_of_words (word ∷ words) = elim words [ [] ↦ lookup (bytes_eq (folded word)) headers | next ∷ others ↦ None ]

-- the section that a line begins, if it is a header
abbrev pub header_of : List ℕ → Option Section
header_of bytes = header_of_words (word_texts Blanks bytes)

-- texts taken as they stand -------------------------------------------------------------------------------------------

-- bytes without the blanks at their end
abbrev pub without_blank_end : List ℕ → List ℕ
without_blank_end bytes = reverse (drop (prefix_len is_blank (reverse bytes)) (reverse bytes))

-- a word of a line, by its places, is one of these, letters folded
abbrev pub is_word : List ℕ → List (List ℕ) → ℕ × ℕ → Bool
is_word bytes names word = list_any (bytes_eq (folded (slice_range bytes word.0 word.1))) names

-- where a word ends, if it is there
abbrev pub end_of_word : Option (ℕ × ℕ) → Option ℕ
end_of_word word = option_map (λ places. places.1) word

-- where the first word of a line ends, if it is one of these
abbrev pub end_of_first : List ℕ → List (List ℕ) → Option ℕ
end_of_first bytes names = end_of_word (find (is_word bytes names) (take 1 (words_in Blanks bytes)))

-- the words of a line of RULES after its first `->`
abbrev pub behind_arrow : List ℕ → List (ℕ × ℕ) → List (ℕ × ℕ)
behind_arrow bytes words = drop (suc (prefix_len (λ word. not (is_word bytes (codes "->" ∷ []) word)) words)) words

-- where a text that is taken as it stands begins in a line whose comments are blanks: after `title`, `author` or
-- `homepage` as the first word of a line of the prelude; after `message` as the first word of a line of LEVELS; after
-- the first `message` that stands after the `->` of a line of RULES
abbrev pub text_place : Section → List ℕ → Option ℕ
text_place Prelude uncommented = end_of_first uncommented (codes "title" ∷ codes "author" ∷ codes "homepage" ∷ [])
text_place Levels uncommented = end_of_first uncommented (codes "message" ∷ [])
text_place Rules uncommented =
    end_of_word (find (is_word uncommented (codes "message" ∷ []))
    (behind_arrow uncommented (rule_words_in uncommented)))
text_place section uncommented = None

-- how long that text is: in the prelude it ends where a comment begins; elsewhere it has all that follows, parentheses
-- among it
abbrev pub text_length : Section → List ℕ → ℕ
text_length Prelude behind = prefix_len (λ byte. not (byte == 40)) behind
text_length section behind = length behind

-- how many comments are open below a line before which `depth` are: none where a text ends the line
abbrev pub depth_below : Section → Option ℕ → ℕ → List ℕ → ℕ
depth_below Prelude place depth raw = fold depth_behind depth raw
depth_below section (Some place) depth raw = 0
depth_below section None depth raw = fold depth_behind depth raw

-- lines ---------------------------------------------------------------------------------------------------------------

-- a text taken as it stands: the byte of the whole text at which it begins; and its bytes, without the blanks at both
-- ends
pub record Taken : Type 0 where
  pub start : ℕ
  pub bytes : List ℕ

-- a line
pub record Line : Type 0 where
  -- its number, from 1
  pub number : ℕ
  -- the byte of the text at which it begins
  pub start : ℕ
  -- the section that it stands in; a header stands in the section that it begins
  pub section : Section
  -- it is a header
  pub is_header : Bool
  -- its bytes, with blanks in place of what stands in comments and of a text taken as it stands
  pub bytes : List ℕ
  -- the text that is taken as it stands
  pub taken : Option Taken
  -- it isn't read past
  pub is_there : Bool

-- what stands after a place of a line, the blanks at both ends left out
abbrev pub text_behind : ℕ → ℕ → List ℕ → Taken
text_behind start place behind =
    let skipped : ℕ = prefix_len is_blank behind in
    record { start = start + place + skipped; bytes = without_blank_end (drop skipped behind) }

-- a line whose comments are blanks, with blanks for a text of `size` bytes too
abbrev pub without_text : List ℕ → ℕ → ℕ → List ℕ
without_text uncommented place size = take place uncommented ++ (replicate size 32 ++ drop (place + size) uncommented)

-- the line is made of `=`, at least one, and blanks alone
abbrev pub is_divider : List ℕ → Bool
is_divider bytes = list_all (λ byte. is_blank byte || byte == 61) bytes && list_any (λ byte. byte == 61) bytes

-- bytes without a word
abbrev pub are_blank : List ℕ → Bool
are_blank bytes = list_all is_blank bytes

-- a line that lies partly or wholly in a comment and has only blanks besides: its bytes, as they stand and without
-- comments
abbrev pub is_comment : ℕ → List ℕ → List ℕ → Bool
is_comment depth raw uncommented = are_blank uncommented && (nat_lt 0 depth || list_any (λ byte. byte == 40) raw)

-- a line of a comment and a line of `=` aren't there
abbrev pub is_read : ℕ → List ℕ → List ℕ → Bool
is_read depth raw uncommented = not (is_divider uncommented) && not (is_comment depth raw uncommented)

-- the bytes of a line without its comments, and without the text that is taken as it stands at a place
abbrev pub bytes_left : List ℕ → Section → List ℕ → Option ℕ → List ℕ
bytes_left raw section uncommented None = uncommented
bytes_left raw section uncommented (Some place) = without_text uncommented place (text_length section (drop place raw))

-- the text that is taken as it stands at a place
abbrev pub text_taken : List ℕ → ℕ → Section → Option ℕ → Option Taken
text_taken raw start section None = None
text_taken raw start section (Some place) = let behind : List ℕ = drop place raw in
    Some (text_behind start place (take (text_length section behind) behind))

-- the lines, from a number and a byte of the text on, the first below a line of that section and with `depth` comments
-- open
abbrev pub lines_from : ℕ → ℕ → ℕ → Section → List (List ℕ) → List Line
lines_from number start depth above [] = []
lines_from number start depth above (raw ∷ others) =
    let uncommented : List ℕ = without_comments depth raw in
    let header : Option Section = header_of uncommented in
    let section : Section = unwrap_or header above in
    let place : Option ℕ = text_place section uncommented in
    record {
      number = number;
      start = start;
      section = section;
      is_header = is_some header;
      bytes = bytes_left raw section uncommented place;
      taken = text_taken raw start section place;
      is_there = is_read depth raw uncommented;
    } ∷ lines_from (suc number) (start + length raw + 1) (depth_below section place depth raw) section others

-- the lines of a text, those among them that aren't there; a byte order mark at its start is read past
abbrev pub lines_of : List ℕ → List Line
lines_of text = lines_from 1 (mark_length text) 0 Prelude (raw_lines (drop (mark_length text) text))

-- the line has no word
abbrev pub is_blank_line : Line → Bool
is_blank_line line = are_blank line.bytes

-- the text that a line takes as it stands; of a line that takes none, nothing
abbrev pub taken_bytes : Line → List ℕ
taken_bytes line = unwrap_or (option_map (λ taken. taken.bytes) line.taken) []

-- the words of a line, cut at blanks
abbrev pub words_of_line : Line → List (List ℕ)
words_of_line line = word_texts Blanks line.bytes

-- the first word of a line, letters folded; of a blank line, a word without letters
abbrev pub first_word : Line → List ℕ
first_word line = folded (slice_index_or (words_of_line line) 0 [])
