-- Lines with comments, texts that are taken as they stand, and the words of lines of RULES, worked by hand.
use Rattle.std.proofs.Common.{◌≡◌, ℕ, List, [], ◌∷◌, ◌++◌, map, refl, true, false, Bool}
use Rattle.std.specs.Prelude.{codes, option_map, slice_range, replicate}
use Rattle.std.specs.List.{filter_map}
use Rattle.ps_model.specs.declared.texts.Section.{Section}
use Rattle.ps_model.specs.declared.texts.Section.TheVariants.{Objects, Legend}
use Rattle.ps_model.specs.text.Lines.{lines_of, words_of_line}
use Rattle.ps_model.specs.text.RuleWords.{rule_words_in}

-- the words of each line
abbrev words : List ℕ → List (List (List ℕ))
words text = map words_of_line (lines_of text)

-- which lines are there
abbrev there : List ℕ → List Bool
there text = map (λ line. line.is_there) (lines_of text)

abbrev sections : List ℕ → List Section
sections text = map (λ line. line.section) (lines_of text)

-- the texts that are taken as they stand
abbrev texts : List ℕ → List (List ℕ)
texts text = filter_map (λ line. option_map (λ taken. taken.bytes) line.taken) (lines_of text)

-- the words of a line of RULES
abbrev rule_words : List ℕ → List (List ℕ)
rule_words bytes = map (λ word. slice_range bytes word.0 word.1) (rule_words_in bytes)

-- comments ------------------------------------------------------------------------------------------------------------

-- comments nest, and part words; each byte in one reads as a blank
nested : map (λ line. line.bytes) (lines_of (codes "a(b(c)d)e f")) ≡ (codes "a" ++ (replicate 7 32 ++ codes "e f")) ∷ []
nested = refl

letters_of_several_bytes : map (λ line. line.bytes) (lines_of (codes "(" ++ (195 ∷ 169 ∷ codes ")A"))) ≡ codes "    A"
    ∷ []
letters_of_several_bytes = refl

-- a comment goes on over lines; what stands before and after it is read
over_lines : words (codes "A (x\ny\nz) B\nC") ≡ (codes "A" ∷ []) ∷ [] ∷ (codes "B" ∷ []) ∷ (codes "C" ∷ []) ∷ []
over_lines = refl

over_lines_there : there (codes "A (x\ny\nz) B\nC") ≡ true ∷ false ∷ true ∷ true ∷ []
over_lines_there = refl

-- one that isn't closed goes on to the end of the text
unclosed : words (codes "A (x (y)\nB\n\nC )\n") ≡ (codes "A" ∷ []) ∷ [] ∷ [] ∷ [] ∷ []
unclosed = refl

-- an empty line in a comment isn't there, nor a line of a comment and blanks; an empty line elsewhere is
empty_in_comment : there (codes " (a\n\nb) \n\n(c)\n") ≡ false ∷ false ∷ false ∷ true ∷ false ∷ []
empty_in_comment = refl

-- a `)` outside a comment is an ordinary character
closing_outside : words (codes ") a (b) c)(d\n)e") ≡ (codes ")" ∷ codes "a" ∷ codes "c)" ∷ []) ∷ (codes "e" ∷ []) ∷ []
closing_outside = refl

-- a line of `=` with comments isn't there, inside a comment neither; one with another word is
dividers : there (codes "== (x) =\n=(x\n=)=\n= a\nA = (b)\n(=)a") ≡ false ∷ false ∷ false ∷ true ∷ true ∷ true ∷ []
dividers = refl

-- line ends and the mark at the start ---------------------------------------------------------------------------------

line_ends : words (codes "A b\r\n\r\nC\r") ≡ (codes "A" ∷ codes "b" ∷ []) ∷ [] ∷ (codes "C" ∷ []) ∷ []
line_ends = refl

-- a byte order mark is read past once, and counts among the bytes of the text
mark : words (239 ∷ 187 ∷ 191 ∷ codes "a\nb") ≡ (codes "a" ∷ []) ∷ (codes "b" ∷ []) ∷ []
mark = refl

behind_the_mark : map (λ line. line.start) (lines_of (239 ∷ 187 ∷ 191 ∷ codes "a\nb")) ≡ 3 ∷ 5 ∷ []
behind_the_mark = refl

second_mark : words (239 ∷ 187 ∷ 191 ∷ 239 ∷ 187 ∷ 191 ∷ codes "a") ≡ ((239 ∷ 187 ∷ 191 ∷ codes "a") ∷ []) ∷ []
second_mark = refl

-- headers -------------------------------------------------------------------------------------------------------------

-- a header may have comments beside it, also one that began above; a header in a comment is none
headers_and_comments : sections (codes "(x) OBJECTS (y)\n(\nLEVELS\n) Legend\nA (\nRULES") ≡ Objects ∷ Objects ∷
    Objects ∷ Legend ∷ Legend ∷ Legend ∷ []
headers_and_comments = refl

which_are_headers : map (λ line. line.is_header) (lines_of (codes "(x) OBJECTS (y)\n(\nLEVELS\n) Legend\nA (\nRULES"))
    ≡ true ∷ false ∷ false ∷ true ∷ false ∷ false ∷ []
which_are_headers = refl

-- texts taken as they stand: the prelude ------------------------------------------------------------------------------

-- a title ends where a comment begins; that comment goes on as elsewhere
title_before_comment : texts (codes "title  A ) b (c\nd) e (f\n)  AUTHOR g = h \r\nHomepage (i)") ≡ codes "A ) b" ∷
    codes "g = h" ∷ [] ∷ []
title_before_comment = refl

title_words : words (codes "title A (b\nc) noundo") ≡ (codes "title" ∷ []) ∷ (codes "noundo" ∷ []) ∷ []
title_words = refl

empty_titles : texts (codes "title(x)\ntitle (x) y\ntitle") ≡ [] ∷ [] ∷ [] ∷ []
empty_titles = refl

behind_an_empty_title : words (codes "title (x) y") ≡ (codes "title" ∷ codes "y" ∷ []) ∷ []
behind_an_empty_title = refl

-- `title` is the first word that isn't in a comment, and only in the prelude; `message` begins no text there
no_titles : texts (codes "a title b\n(title) c\nmessage d\ntitles e\nOBJECTS\ntitle f") ≡ []
no_titles = refl

title_behind_comment : texts (codes "(a\nb) title c") ≡ codes "c" ∷ []
title_behind_comment = refl

-- texts taken as they stand: LEVELS -----------------------------------------------------------------------------------

-- a message has its parentheses, and no comment begins in it
message_in_levels : texts (codes "LEVELS\nmessage Hello (World) \r\nMessage a (b\nP)\n(x) message(c) d\nmessage") ≡
    codes "Hello (World)" ∷ codes "a (b" ∷ codes "(c) d" ∷ [] ∷ []
message_in_levels = refl

below_a_message : words (codes "LEVELS\nmessage a (b\nP)") ≡ (codes "LEVELS" ∷ []) ∷ (codes "message" ∷ []) ∷
    (codes "P)" ∷ []) ∷ []
below_a_message = refl

message_in_comment : texts (codes "LEVELS\n(message a)\n(\nmessage b\n) message c (d\nmessages e") ≡ codes "c (d" ∷ []
message_in_comment = refl

-- where it begins in the text
message_place : filter_map (λ line. option_map (λ taken. taken.start) line.taken)
    (lines_of (codes "LEVELS\nmessage  a")) ≡ 16 ∷ []
message_place = refl

-- texts taken as they stand: RULES ------------------------------------------------------------------------------------

message_in_rules : texts (codes
    "RULES\n[A]->message a (b) -> c\n[A] -> win MESSAGE(a) message b\n[A] -> [ message ]\n[A] -> message") ≡ codes
    "a (b) -> c" ∷ codes "(a) message b" ∷ codes "]" ∷ [] ∷ []
message_in_rules = refl

-- on the left of the arrow, before an arrow that stands in a comment, or without an arrow there is no such text
no_message_in_rules : texts (codes
    "RULES\n[ message ] -> [A]\nmessage [A] -> [B]\n(->) message a\nmessage b\n[A] -> messages c\n[A] -> amessage d") ≡
    []
no_message_in_rules = refl

-- the message ends the line: no comment goes on below it; one before it does count
below_a_rule : words (codes "RULES\n[A] (x -> message) -> message a (b\n[B]") ≡ (codes "RULES" ∷ []) ∷
    (codes "[A]" ∷ codes "->" ∷ codes "message" ∷ []) ∷ (codes "[B]" ∷ []) ∷ []
below_a_rule = refl

-- the words of lines of RULES -----------------------------------------------------------------------------------------

signs : rule_words (codes ">>A <^b c>d >") ≡ codes ">" ∷ codes ">" ∷ codes "A" ∷ codes "<" ∷ codes "^" ∷ codes "b" ∷
    codes "c>d" ∷ codes ">" ∷ []
signs = refl

arrows : rule_words (codes "A->B --> ->> - >") ≡ codes "A" ∷ codes "->" ∷ codes "B" ∷ codes "-" ∷ codes "->" ∷ codes
    "->" ∷ codes ">" ∷ codes "-" ∷ codes ">" ∷ []
arrows = refl

brackets : rule_words (codes "late[>A|no B]->[...|]") ≡ codes "late" ∷ codes "[" ∷ codes ">" ∷ codes "A" ∷ codes "|" ∷
    codes "no" ∷ codes "B" ∷ codes "]" ∷ codes "->" ∷ codes "[" ∷ codes "..." ∷ codes "|" ∷ codes "]" ∷ []
brackets = refl

-- one `+` is cut off at the start of a line; elsewhere it is an ordinary character
pluses : map rule_words (codes " +[A]" ∷ codes "++ +" ∷ codes "+late+" ∷ codes "[+] +" ∷ codes "+" ∷ [])
    ≡ (codes "+" ∷ codes "[" ∷ codes "A" ∷ codes "]" ∷ []) ∷ (codes "+" ∷ codes "+" ∷ codes "+" ∷ []) ∷
    (codes "+" ∷ codes "late+" ∷ []) ∷ (codes "[" ∷ codes "+" ∷ codes "]" ∷ codes "+" ∷ []) ∷ (codes "+" ∷ []) ∷ []
pluses = refl

-- a comment parts words as a blank does; a `+` after it stands at the start
behind_comments : map (λ line. rule_words line.bytes) (lines_of (codes "(x)+late[A(b)B]-(c)>")) ≡
    (codes "+" ∷ codes "late" ∷ codes "[" ∷ codes "A" ∷ codes "B" ∷ codes "]" ∷ codes "-" ∷ codes ">" ∷ []) ∷ []
behind_comments = refl
