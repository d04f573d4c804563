-- Odd texts, worked by hand: what is said about them first, and at which line; or what they say where they are games.
use Rattle.std.proofs.Common.{◌≡◌, ℕ, List, [], ◌∷◌, ◌++◌, ap, map, length, refl, Option, Some, None, true, false}
use Rattle.std.specs.Prelude.{codes, option_map, replicate, nat_lt}
use Rattle.std.specs.List.{flat_map, range_with_len}
use Rattle.std.specs.Str.{chars, is_utf8}
use Rattle.std.specs.Str.Lossy.{utf8_valid_len}
use Rattle.std.specs.Fmt.{digits, decimal}
use Rattle.std.proofs.Math.Utf8.{encode}
use Rattle.ps_model.specs.board.Turns.{turn}
use Rattle.ps_model.specs.game.Outputs.{opening_step}
use Rattle.ps_model.specs.board.Programs.{group, program_run}
use Rattle.ps_model.specs.session.StartSteps.{all_start_turns}
use Rattle.ps_model.specs.session.KeySteps.{all_key_turns}
use Rattle.ps_model.specs.declared.pieces.ObjectId.{ObjectId}
use Rattle.ps_model.specs.declared.faults.Fault.{Fault}
use Rattle.ps_model.specs.declared.faults.FaultKind.{FaultKind}
use Rattle.ps_model.specs.declared.faults.FaultKind.TheVariants as kind
use Rattle.ps_model.specs.declared.limits.TheConstants.{TEXT_LIMIT}
use Rattle.ps_model.specs.text.TextFaults.{text_fault, utf8_fault}
use Rattle.ps_model.specs.names.Names.{One, AllOf, AnyOf, meaning_of}
use Rattle.ps_model.specs.game.Games.{game}
use Rattle.ps_examples.proofs.games.BaseText.{base_game}
use Rattle.ps_examples.proofs.games.WholeRuns.{written, refused}

-- a fault at a line
abbrev at_line : ℕ → FaultKind → Option Fault
at_line line kind = Some (record { kind = kind; line = line })

-- all these texts have the same answer
abbrev AllRefused : Option Fault → List (List ℕ) → Type 0
AllRefused fault texts = map refused texts ≡ map (λ text. fault) texts

-- the character e acute
abbrev e_acute : List ℕ
e_acute = 195 ∷ 169 ∷ []

-- a text with these lines of OBJECTS, the first of which is line 6, of LEGEND, of COLLISIONLAYERS, and of LEVELS
abbrev text_with_rows : List ℕ → List ℕ → List ℕ → List ℕ → List ℕ
text_with_rows objects legend layers rows =
    codes "OBJECTS\nBackground .\nx\nPlayer P\nx\n" ++
    (objects ++ (codes "LEGEND\n" ++ (legend ++
    (codes "COLLISIONLAYERS\n" ++ (layers ++ (codes "Background\nPlayer\nLEVELS\n" ++ rows))))))

abbrev text_with : List ℕ → List ℕ → List ℕ → List ℕ
text_with objects legend layers = text_with_rows objects legend layers (codes "P\n")

-- that text with three objects more, so that the first line of LEGEND is line 13
abbrev with_three : List ℕ → List ℕ → List ℕ
with_three legend layers = text_with (codes "A\nx\nB\nx\nC\nx\n") legend layers

abbrev object : ℕ → ObjectId
object number = record { 0 = number }

-- bytes ---------------------------------------------------------------------------------------------------------------

-- a byte of no whole character is told where it stands: too long a form, half of a pair, beyond the last character, a
-- byte that begins none
no_characters : AllRefused (at_line 2 kind.NotUtf8)
    ((10 ∷ 192 ∷ 128 ∷ []) ∷ (10 ∷ 224 ∷ 159 ∷ 191 ∷ []) ∷ (10 ∷ 237 ∷ 160 ∷ 128 ∷ []) ∷
    (10 ∷ 244 ∷ 144 ∷ 128 ∷ 128 ∷ []) ∷ (10 ∷ 245 ∷ 128 ∷ 128 ∷ 128 ∷ []) ∷ (10 ∷ 128 ∷ []) ∷ [])
unfolding chars is_utf8 encode utf8_valid_len
no_characters = refl

-- a line feed doesn't end a character: the line is the one in which the character begins
cut_by_line_feed : refused (codes "a\n" ++ 226 ∷ 130 ∷ 10 ∷ 172 ∷ []) ≡ at_line 2 kind.NotUtf8
unfolding chars is_utf8 encode utf8_valid_len
cut_by_line_feed = refl

-- the last character of each length is one, as is the last before the halves of pairs; a byte order mark alone is an
-- empty line
last_characters : AllRefused (at_line 1 kind.NoSection)
    ((0 ∷ []) ∷ (127 ∷ []) ∷ (223 ∷ 191 ∷ []) ∷ (237 ∷ 159 ∷ 191 ∷ []) ∷ (239 ∷ 191 ∷ 191 ∷ []) ∷
    (244 ∷ 143 ∷ 191 ∷ 191 ∷ []) ∷ (239 ∷ 187 ∷ 191 ∷ []) ∷ [])
unfolding chars is_utf8 encode utf8_valid_len
last_characters = refl

-- two bytes of a byte order mark are no character
half_mark : refused (239 ∷ 187 ∷ codes "\nOBJECTS") ≡ at_line 1 kind.NotUtf8
unfolding chars is_utf8 encode utf8_valid_len
half_mark = refl

-- a text of just as many bytes as the limit isn't too long
as_long_as_may_be : (text : List ℕ) → length text ≡ TEXT_LIMIT → text_fault text ≡ utf8_fault text
as_long_as_may_be text is_long = ap (λ size. elim (nat_lt TEXT_LIMIT size)
    [ true ↦ Some (record { kind = kind.TooLong; line = 1 }) | false ↦ utf8_fault text ]) is_long

-- a byte order mark and two line feeds are two empty lines
mark_and_feeds : refused (239 ∷ 187 ∷ 191 ∷ codes "\n\n") ≡ at_line 2 kind.NoSection
unfolding chars is_utf8 encode utf8_valid_len
mark_and_feeds = refl

-- a wrong byte in a comment is told all the same, and before a header out of order above it
wrong_in_comment : refused (codes "LEVELS\nOBJECTS\n(" ++ 255 ∷ codes ")") ≡ at_line 3 kind.NotUtf8
unfolding chars is_utf8 encode utf8_valid_len
wrong_in_comment = refl

-- headers and the prelude ---------------------------------------------------------------------------------------------

-- a comment within a header's word makes two words of it: here an object with a second name of three characters
header_in_two_words : refused (text_with (codes "LEG(x)END\nx\n") [] []) ≡ at_line 6 kind.BadObject
unfolding chars is_utf8 encode utf8_valid_len
header_in_two_words = refl

-- tabs, carriage returns and comments may stand beside headers
blanks_beside_headers : refused
    (codes " \tobjects\t\r\nBackground .\r\nx\r\nPlayer P\r\nx\r\n\tCollisionLayers \r\nBackground\r\nPlayer\r\n(x)\tLEVELS (y)\r\n\r\n P\t\r\n") ≡ None
unfolding chars is_utf8 encode utf8_valid_len
blanks_beside_headers = refl

-- LEGEND, SOUNDS, RULES and WINCONDITIONS may be empty; Background and Player may share a layer
empty_sections : refused (codes
    "OBJECTS\nBackground\nx\nPlayer p\nx\nLEGEND\nSOUNDS\nCOLLISIONLAYERS\nBackground, Player\nRULES\nWINCONDITIONS\nLEVELS\np") ≡ None
unfolding chars is_utf8 encode utf8_valid_len
empty_sections = refl

-- without objects there is no Background, without one named Player no Player: told at the header OBJECTS
no_background : AllRefused (at_line 3 kind.NoBackground)
    (codes "title T\n\nOBJECTS\nCOLLISIONLAYERS\nLEVELS\n" ∷ codes
    "\n\nOBJECTS\nPlayer\nx\nCOLLISIONLAYERS\nPlayer\nLEVELS" ∷ codes
    "(\n)\nobjects\nBack(x)\ny\nground\ny\nCOLLISIONLAYERS\nback, ground\nLEVELS" ∷ [])
unfolding chars is_utf8 encode utf8_valid_len
no_background = refl

-- an object that nothing names Player is none
no_player : refused (codes "title T\n\nOBJECTS\nBackground\nx\nCOLLISIONLAYERS\nBackground\nLEVELS\n") ≡ at_line 3
    kind.NoPlayer
unfolding chars is_utf8 encode utf8_valid_len
no_player = refl

-- a name of the legend may be a section's, but alone on a layer's line it is that section's header; with a comma it
-- isn't
name_of_a_section : map refused (with_three (codes "Objects = A\n") (codes "Objects\nB\nC\n") ∷ with_three
    (codes "Objects = A\n") (codes "Objects,\nB\nC\n") ∷ [])
    ≡ at_line 15 kind.SectionOrder ∷ None ∷ []
unfolding chars is_utf8 encode utf8_valid_len
name_of_a_section = refl

-- a header isn't the colour line of the object above it
header_below_name : refused (codes
    "OBJECTS\nBackground .\nx\nPlayer P\nCOLLISIONLAYERS\nBackground\nPlayer\nLEVELS\nP") ≡ at_line 4 kind.BadObject
unfolding chars is_utf8 encode utf8_valid_len
header_below_name = refl

-- a header among the rows of a level isn't one of them
header_among_rows : refused (base_game [] [] (codes "P\nrules\nP\n")) ≡ at_line 33 kind.SectionOrder
unfolding chars is_utf8 encode utf8_valid_len
header_among_rows = refl

-- nor is one among rules a rule
header_among_rules : refused (base_game (codes "[ A ] -> [ B ]\n(x) Sounds\n") [] (codes "P\n")) ≡ at_line 31
    kind.SectionOrder
unfolding chars is_utf8 encode utf8_valid_len
header_among_rules = refl

-- `message` is a word like others in SOUNDS: a comment begins after it, and hides the headers below
message_in_sounds : refused (codes
    "OBJECTS\nBackground\nx\nPlayer\nx\nSOUNDS\nmessage (x\nCOLLISIONLAYERS\nBackground\nPlayer\nLEVELS\nPlayer") ≡
    at_line 12 kind.NoSection
unfolding chars is_utf8 encode utf8_valid_len
message_in_sounds = refl

-- so it is in the prelude, where a hidden header begins no section
message_in_prelude : refused (codes "message (x\nOBJECTS\n) realtime_interval 1\nOBJECTS\n") ≡ at_line 3 kind.Realtime
unfolding chars is_utf8 encode utf8_valid_len
message_in_prelude = refl

-- a title may have a `)`; the comment after it goes on below
title_and_comment : option_map (λ read. read.title)
    (game (codes "title A ) B (x\nOBJECTS\n) y\n" ++ text_with [] [] [])) ≡ Some (codes "A ) B")
unfolding chars is_utf8 encode utf8_valid_len
title_and_comment = refl

-- the last line counts also where it isn't there
last_line_of_all : refused (codes "OBJECTS\nCOLLISIONLAYERS\n(\n\n)\n===\n") ≡ at_line 6 kind.NoSection
unfolding chars is_utf8 encode utf8_valid_len
last_line_of_all = refl

-- OBJECTS -------------------------------------------------------------------------------------------------------------

-- a second name has one character, a letter and an accent beside it are two; a third name is none
bad_names : AllRefused (at_line 6 kind.BadObject)
    (text_with (codes "Rock ab\nx\n") [] [] ∷ text_with (codes "Rock e" ++ 204 ∷ 129 ∷ codes "\nx\n") [] [] ∷ text_with
    (codes "Rock a b\nx\n") [] []
    ∷ text_with (codes "Rock a (x) b\nx\n") [] [] ∷ text_with (codes "(x) Rock (a) ab\nx\n") [] [] ∷ text_with
    (codes "Rock = a\nx\n") [] [] ∷ [])
unfolding chars is_utf8 encode utf8_valid_len
bad_names = refl

-- one character may be several bytes, and a comment is no name
good_names : AllRefused None
    (text_with (codes "Rock " ++ (e_acute ++ codes " (x)\nx\n")) [] (codes "Rock\n") ∷ text_with
    (codes "Rock " ++ 240 ∷ 159 ∷ 170 ∷ 168 ∷ codes "\nx\n") [] (codes "rock\n")
    ∷ text_with (codes "Rock =\nx\n") [] (codes "=\n\n= ,\n") ∷ [])
unfolding chars is_utf8 encode utf8_valid_len
good_names = refl

-- colours stand right below the name: a blank line is none, nor are a comment, a line of `=` and the next header
no_colours : AllRefused (at_line 6 kind.BadObject)
    (text_with (codes "Rock\n\nx\n") [] [] ∷ text_with (codes "Rock\n") [] [] ∷ text_with (codes "Rock\n(x)\n") [] [] ∷
    text_with (codes "Rock\n= =\n\t\nx\n") [] [] ∷ [])
unfolding chars is_utf8 encode utf8_valid_len
no_colours = refl

-- but comments and lines of `=` may stand between a name and its colours
colours_below_comments : refused (text_with (codes "Rock (a\n\nb)\n(x)\n==\n\tred (x)\n") [] (codes "Rock\n")) ≡ None
unfolding chars is_utf8 encode utf8_valid_len
colours_below_comments = refl

-- comments and lines of `=` may stand between the five rows of a sprite, and blanks beside each
sprite_with_comments : refused (text_with (codes
    "Rock\nx\n00000\n(x)\n 11111 \r\n===\n.....\n(a\n\nb) 22222\n3.3.3 (x)\nStone\nx\n") [] (codes "Rock Stone\n")) ≡
    None
unfolding chars is_utf8 encode utf8_valid_len
sprite_with_comments = refl

-- one to four rows, whatever ends them: a blank line, another line, the section
short_sprites : AllRefused (at_line 6 kind.BadObject)
    (text_with (codes "Rock\nx\n00000\n11111\n22222\n33333\n\n44444\nx\n") [] [] ∷ text_with
    (codes "Rock\nx\n00000\n11111\n22222\n33333\n444 44\nx\n") [] []
    ∷ text_with (codes "Rock\nx\n00000\n11111\n22222\n33333\n4444a\nx\n") [] [] ∷ text_with (codes "Rock\nx\n00000\n")
    [] [] ∷ text_with (codes "Rock\n00000\n11111\nx\n") [] [] ∷ [])
unfolding chars is_utf8 encode utf8_valid_len
short_sprites = refl

-- what is no sprite row names the next object, which has no layer here: six characters, a sixth row, one below a blank
-- line, a dash
sprite_or_name : map refused
    (text_with (codes "Rock\nx\n000000\nx\n") [] (codes "Rock\n") ∷ text_with
    (codes "Rock\nx\n00000\n11111\n22222\n33333\n44444\n55555\nx\n") [] (codes "Rock\n")
    ∷ text_with (codes "Rock\n12345\n\n00000\nx\n") [] (codes "Rock\n") ∷ text_with (codes "Rock\nx\n0000-\nx\n") []
    (codes "Rock\n") ∷ [])
    ≡ at_line 8 kind.NoLayer ∷ at_line 13 kind.NoLayer ∷ at_line 9 kind.NoLayer ∷ at_line 8 kind.NoLayer ∷ []
unfolding chars is_utf8 encode utf8_valid_len
sprite_or_name = refl

-- a name stands once: as a name or a second name, by its ASCII letters in either case
names_twice : AllRefused (at_line 6 kind.Twice)
    (text_with (codes "R r\nx\n") [] [] ∷ text_with (codes "PLAYER\nx\n") [] [] ∷ text_with (codes "p\nx\n") [] [] ∷
    text_with (codes "Rock .\nx\nStone\n") [] [] ∷ [])
unfolding chars is_utf8 encode utf8_valid_len
names_twice = refl

-- other letters aren't folded
accents_once : refused (text_with (e_acute ++ codes " " ++ 195 ∷ 137 ∷ codes "\nx\n") [] (e_acute ++ codes "\n")) ≡ None
unfolding chars is_utf8 encode utf8_valid_len
accents_once = refl

-- a bad object is told before a name that it repeats
bad_before_twice : refused (text_with (codes "Player P P\nx\n") [] []) ≡ at_line 6 kind.BadObject
unfolding chars is_utf8 encode utf8_valid_len
bad_before_twice = refl

-- `count` objects more, each of two lines, and their names
abbrev name_of : ℕ → List ℕ
name_of number = codes "E" ++ decimal number

abbrev more_objects : ℕ → List ℕ
more_objects count = flat_map (λ number. name_of number ++ codes "\nx\n") (range_with_len 0 count)

abbrev more_names : ℕ → List ℕ
more_names count = flat_map (λ number. name_of number ++ codes " ") (range_with_len 0 count) ++ codes "\n"

-- 512 objects are within the limit
objects_at_limit : refused (text_with (more_objects 510) [] (more_names 510)) ≡ None
unfolding chars is_utf8 encode utf8_valid_len digits
objects_at_limit = refl

-- the 513th isn't, and is told after its other faults
objects_over : refused (text_with (more_objects 512) [] []) ≡ at_line 1026 kind.TooManyNames
unfolding chars is_utf8 encode utf8_valid_len digits
objects_over = refl

twice_over : refused (text_with (more_objects 510 ++ codes "e7\nx\n") [] []) ≡ at_line 1026 kind.Twice
unfolding chars is_utf8 encode utf8_valid_len digits
twice_over = refl

bad_object_over : refused (text_with (more_objects 510 ++ codes "F\n") [] []) ≡ at_line 1026 kind.BadObject
unfolding chars is_utf8 encode utf8_valid_len digits
bad_object_over = refl

-- LEGEND: the form of lines -------------------------------------------------------------------------------------------

-- lines of no form
bad_lines : AllRefused (at_line 13 kind.BadLine)
    (map (λ line. with_three (line ++ codes "\n") [])
    (codes "X" ∷ codes "X =" ∷ codes "= A" ∷ codes "X A = B" ∷ codes "X = A B" ∷ codes "X = A and" ∷ codes "X = and A"
    ∷ codes "X = A or B or" ∷ codes "X = A and B C"
    ∷ codes "X = A = B" ∷ codes "X == A" ∷ codes "X = A or or B" ∷ codes "A or B = X" ∷ codes "X = A, B" ∷ codes
    "X = A or B = C" ∷ codes "X (=) A" ∷ []))
unfolding chars is_utf8 encode utf8_valid_len
bad_lines = refl

-- `and` and `or` may be names: the word between two names is the one that joins
key_words_as_names : option_map (λ read. map (meaning_of read.names)
    (codes "and" ∷ codes "x" ∷ codes "or" ∷ codes "y" ∷ codes "z" ∷ []))
    (game (with_three (codes "and=A\nX = And AND aNd\nor = B\nY = or or or or C\nZ = and\n") (codes "A\nB\nC\n")))
    ≡ Some (Some (One (object 2)) ∷ Some (AllOf 14 (object 2 ∷ [])) ∷ Some (One (object 3)) ∷ Some
    (AnyOf 16 (object 3 ∷ object 4 ∷ [])) ∷ Some (One (object 2)) ∷ [])
unfolding chars is_utf8 encode utf8_valid_len
key_words_as_names = refl

-- but both in one line are refused, wherever they stand, also where the line has no form; unless a name is repeated
both_joiners : AllRefused (at_line 13 kind.MixedAndOr)
    (map (λ line. with_three (line ++ codes "\n") [])
    (codes "X = A and B or C" ∷ codes "and = A or B" ∷ codes "X = and or B" ∷ codes "X = A AND B Or" ∷ codes
    "or and" ∷ codes "X = or = and" ∷ []))
unfolding chars is_utf8 encode utf8_valid_len
both_joiners = refl

-- a line declares its first word where `=` is its second, whatever follows
repeated_on_bad_lines : AllRefused (at_line 13 kind.Twice)
    (map (λ line. with_three (line ++ codes "\n") [])
    (codes "a = B and A or C" ∷ codes "PLAYER =" ∷ codes "p=A B" ∷ codes ". = or and" ∷ codes "background = A" ∷
    []))
unfolding chars is_utf8 encode utf8_valid_len
repeated_on_bad_lines = refl

-- the form of all lines is told before what they name
forms_first : map refused (with_three (codes "X = Nope\nY\n") [] ∷ with_three (codes "X = X\nx = A\n") [] ∷ with_three
    (codes "X = Nope\n\n(x)\nY = A or B and C\n") [] ∷ [])
    ≡ at_line 14 kind.BadLine ∷ at_line 14 kind.Twice ∷ at_line 16 kind.MixedAndOr ∷ []
unfolding chars is_utf8 encode utf8_valid_len
forms_first = refl

-- LEGEND: what lines name ---------------------------------------------------------------------------------------------

-- a name that nothing declares is told at the line that writes it, before a cycle of that line
unknown_names : map refused
    (with_three (codes "X = Y\nY = Nope\n") [] ∷ with_three (codes "X = A or B or Nope\n") [] ∷ with_three
    (codes "X = X or Nope\n") [] ∷ with_three (codes "X = Y and Nope\nY = X\n") []
    ∷ with_three [] (codes "A, Nope\n") ∷ [])
    ≡ at_line 14 kind.UnknownName ∷ at_line 13 kind.UnknownName ∷ at_line 13 kind.UnknownName ∷ at_line 13
    kind.UnknownName ∷ at_line 14 kind.UnknownName ∷ []
unfolding chars is_utf8 encode utf8_valid_len
unknown_names = refl

-- a name that stands for itself, by its own line or by others; a line that only leads into the circle isn't on it
cycles : map refused
    (with_three (codes "X = x\n") [] ∷ with_three (codes "X = A and X\n") [] ∷ with_three
    (codes "L = X\nX = Y\nY = X\n") [] ∷ with_three (codes "X = Y or A\nY = Z\nZ = B or X\n") []
    ∷ with_three (codes "L = A or K\nK = L2\nL2 = B or X\nX = Y\nY = Z or A\nZ = X\n") [] ∷ [])
    ≡ at_line 13 kind.Cycle ∷ at_line 13 kind.Cycle ∷ at_line 14 kind.Cycle ∷ at_line 13 kind.Cycle ∷ at_line 16
    kind.Cycle ∷ []
unfolding chars is_utf8 encode utf8_valid_len
cycles = refl

-- a cycle is told before an aggregate in a property on the same line, but not before one on a line above
cycle_or_aggregate : map refused (with_three (codes "X = Y or A\nY = X and B\n") [] ∷ with_three
    (codes "Q = G or A\nG = A and B\nX = X\n") [] ∷ [])
    ≡ at_line 13 kind.Cycle ∷ at_line 13 kind.AggregateInProperty ∷ []
unfolding chars is_utf8 encode utf8_valid_len
cycle_or_aggregate = refl

-- a property that names an aggregate, also by a synonym that is declared below; a property of that property isn't told
aggregates_in_properties : map refused
    (with_three (codes "Q = S or A\nS = G\nG = A and B\n") [] ∷ with_three
    (codes "R = Q or C\nQ = A or G\nG = A and B\n") [] ∷ with_three
    (codes "Q = A or B or T\nT = S\nS = G\nG = C and C\n") [] ∷ [])
    ≡ at_line 13 kind.AggregateInProperty ∷ at_line 14 kind.AggregateInProperty ∷ at_line 13 kind.AggregateInProperty ∷
    []
unfolding chars is_utf8 encode utf8_valid_len
aggregates_in_properties = refl

-- an aggregate that names a property, by a synonym too; an aggregate of that aggregate isn't told
properties_in_aggregates : map refused
    (with_three (codes "G = A and S\nS = Q\nQ = B or C\n") [] ∷ with_three
    (codes "G = H and C\nH = A and Q\nQ = B or C\n") [] ∷ with_three (codes "Q = A or A\nG = Q and B\nX = Nope\n")
    [] ∷ [])
    ≡ at_line 13 kind.PropertyInAggregate ∷ at_line 14 kind.PropertyInAggregate ∷ at_line 14 kind.PropertyInAggregate ∷
    []
unfolding chars is_utf8 encode utf8_valid_len
properties_in_aggregates = refl

-- properties of properties and aggregates of aggregates name each object once, where it is first mentioned; a synonym
-- of a synonym of a property is that property, with its line
flattened : option_map (λ read. map (meaning_of read.names)
    (codes "P" ∷ codes "Q" ∷ codes "S" ∷ codes "t" ∷ codes "R" ∷ codes "G" ∷ codes "H" ∷ codes "J" ∷ []))
    (game (text_with (codes "A\nx\nB\nx\nC\nx\n")
    (codes "S = T\nT = Q2\nQ2 = Q or B\n\nQ = C or A or c\nP2 = B or S or Q\nR = Player or P2 or A\nG = H and A\nH = C and B\nJ = H and G\n") (codes "A\nB\nC\n")))
    ≡ Some (Some (One (object 1)) ∷ Some (AnyOf 17 (object 4 ∷ object 2 ∷ [])) ∷ Some
    (AnyOf 15 (object 4 ∷ object 2 ∷ object 3 ∷ [])) ∷ Some (AnyOf 15 (object 4 ∷ object 2 ∷ object 3 ∷ []))
    ∷ Some (AnyOf 19 (object 1 ∷ object 3 ∷ object 4 ∷ object 2 ∷ [])) ∷ Some
    (AllOf 20 (object 4 ∷ object 3 ∷ object 2 ∷ [])) ∷ Some (AllOf 21 (object 4 ∷ object 3 ∷ []))
    ∷ Some (AllOf 22 (object 4 ∷ object 3 ∷ object 2 ∷ [])) ∷ [])
unfolding chars is_utf8 encode utf8_valid_len
flattened = refl

-- COLLISIONLAYERS -----------------------------------------------------------------------------------------------------

-- a layer has a name; commas alone are none
nameless_layers : AllRefused (at_line 15 kind.BadLine)
    (with_three [] (codes "A,B,C\n,\n") ∷ with_three [] (codes "A,B,C\n, (x) ,\t\n") ∷ [])
unfolding chars is_utf8 encode utf8_valid_len
nameless_layers = refl

-- commas and blanks part names, as many as there are; a synonym of a property stands for its members
good_layers : AllRefused None (with_three [] (codes ",A,,B (x),\tc,\r\n") ∷ with_three (codes "Q = A or B\nS = Q\n")
    (codes "s C\n") ∷ with_three [] (codes "A A\n\n(x)\n==\nB C A\n") ∷ [])
unfolding chars is_utf8 encode utf8_valid_len
good_layers = refl

-- an aggregate on a layer, by a synonym too; a name that nothing declares is told first in one line, but not from a
-- line below
aggregates_on_layers : map refused
    (with_three (codes "G = A and B\nS = G\n") (codes "C S\n") ∷ with_three (codes "G = A and B\n") (codes "G Nope\n")
    ∷ with_three (codes "G = A and B\n") (codes "G\nNope\n") ∷ [])
    ≡ at_line 16 kind.AggregateInLayer ∷ at_line 15 kind.UnknownName ∷ at_line 15 kind.AggregateInLayer ∷ []
unfolding chars is_utf8 encode utf8_valid_len
aggregates_on_layers = refl

-- `count` layers, all of Background
abbrev layers : ℕ → List ℕ
layers count = flat_map (λ line. line) (replicate count (codes "Background\n"))

-- 128 layers are within the limit, blank lines aside; the next isn't, also where it has no name
many_layers : map refused (text_with [] [] (layers 63 ++ codes "\n(x)\n" ++ layers 63) ∷ text_with [] [] (layers 127) ∷
    text_with [] [] (layers 128 ++ codes ",\n") ∷ text_with [] [] (layers 128 ++ codes "Nope\n") ∷ [])
    ≡ None ∷ at_line 136 kind.TooManyNames ∷ at_line 136 kind.TooManyNames ∷ at_line 136 kind.UnknownName ∷ []
unfolding chars is_utf8 encode utf8_valid_len
many_layers = refl

-- the whole -----------------------------------------------------------------------------------------------------------

-- objects on no layer are told by their name lines, before a missing Background
objects_without_layer : map refused (with_three (codes "G = A and B\nQ = B or C\n") (codes "C\n") ∷ codes
    "OBJECTS\nRock\nx\nCOLLISIONLAYERS\n\nLEVELS\n" ∷ [])
    ≡ at_line 6 kind.NoLayer ∷ at_line 2 kind.NoLayer ∷ []
unfolding chars is_utf8 encode utf8_valid_len
objects_without_layer = refl

-- three objects, the first of LEGEND's lines being line 9
abbrev three_alone : List ℕ → List ℕ → List ℕ
three_alone legend layers = codes "OBJECTS\nA\nx\nB\nx\nC\nx\nLEGEND\n" ++
    (legend ++ (codes "COLLISIONLAYERS\n" ++ (layers ++ codes "LEVELS\nC\n")))

-- Background may be a synonym of a property whose members lie on one layer; else it is told at the line of the word
-- Background, as is an aggregate
backgrounds : map refused
    (three_alone (codes "Background = G\nG = A or B\nPlayer = C\n") (codes "A B\nC\n") ∷ three_alone
    (codes "G = A or B\nBackground = G\nPlayer = C\n") (codes "A\nB\nC\n")
    ∷ three_alone (codes "Background = G\nG = A and B\nPlayer = C\n") (codes "A\nB\nC\n") ∷ three_alone
    (codes "Player = C\nBackground = A or B or C\n") (codes "A B C\nC\n") ∷ [])
    ≡ None ∷ at_line 10 kind.BadBackground ∷ at_line 9 kind.BadBackground ∷ at_line 10 kind.BadBackground ∷ []
unfolding chars is_utf8 encode utf8_valid_len
backgrounds = refl

-- Player may be a property of several layers, but no aggregate; a bad Background below it is told first, and two
-- objects of one layer in an aggregate above it last
players : map refused
    (three_alone (codes "Background = A\nPlayer = B or C\n") (codes "A\nB\nC\n") ∷ three_alone
    (codes "Background = A\nG = B and C\nPlayer = G\n") (codes "A\nB\nC\n")
    ∷ three_alone (codes "Player = G\nBackground = A or B\nG = B and C\n") (codes "A\nB\nC\n") ∷ three_alone
    (codes "G = B and C\nBackground = A\nPlayer = G\n") (codes "A\nB C\n") ∷ [])
    ≡ None ∷ at_line 11 kind.BadPlayer ∷ at_line 10 kind.BadBackground ∷ at_line 11 kind.BadPlayer ∷ []
unfolding chars is_utf8 encode utf8_valid_len
players = refl

-- two objects of an aggregate on one layer: the last line that names an object is its layer, one object twice is one,
-- and a synonym of the aggregate isn't told
shared_layers : map refused
    (with_three (codes "S = G\nG = A and B\n") (codes "A\nB\nC A B\n") ∷ with_three (codes "G = A and B\n")
    (codes "A B\nC\nB\n") ∷ with_three (codes "H = G and C\nG = A and B\n") (codes "A B\nC\n")
    ∷ with_three (codes "G = A and a\nQ = A or B\n") (codes "A B\nC\n") ∷ with_three
    (codes "G = A and C\nH = G and B\n") (codes "A B\nC\n") ∷ [])
    ≡ at_line 14 kind.SameLayerAggregate ∷ None ∷ at_line 13 kind.SameLayerAggregate ∷ None ∷ at_line 14
    kind.SameLayerAggregate ∷ []
unfolding chars is_utf8 encode utf8_valid_len
shared_layers = refl

-- LEVELS --------------------------------------------------------------------------------------------------------------

-- `=` may be a glyph, but a row of nothing else isn't there, so that it ends no level
equal_sign : written (text_with_rows (codes "Rock =\nx\n") [] (codes "Rock\n") (codes "=P\n==\nP=\n")) [] ≡ Some
    (codes "= \n# level 1\n=P\nP=\n\n* end of keys\n")
unfolding chars digits is_utf8 utf8_valid_len encode group program_run all_start_turns all_key_turns turn opening_step
equal_sign = refl

-- without an object of that name `=` shows nothing in a row
no_equal_sign : refused (base_game [] [] (codes "==\n=P\n")) ≡ at_line 33 kind.UnknownGlyph
unfolding chars is_utf8 encode utf8_valid_len
no_equal_sign = refl

-- a blank of another kind is a character: it isn't trimmed, and shows nothing
hard_blank : refused (base_game [] [] (194 ∷ 160 ∷ codes "P\n")) ≡ at_line 32 kind.UnknownGlyph
unfolding chars is_utf8 encode utf8_valid_len
hard_blank = refl

-- rows are counted in characters, and filled with one; a row's comment may end in the next
wide_glyph : written (text_with_rows (codes "Rock " ++ (e_acute ++ codes "\nx\n")) [] (codes "Rock\n")
    (codes "P. (x\n y) " ++ (e_acute ++ codes "\n"))) []
    ≡ Some (codes "= \n# level 1\nP.\n" ++ (e_acute ++ (e_acute ++ codes "\n\n* end of keys\n")))
unfolding chars digits is_utf8 utf8_valid_len encode group program_run all_start_turns all_key_turns turn opening_step
wide_glyph = refl

-- 256 characters of two bytes are a row within the limit, 257 aren't
wide_rows : map refused
    (map (λ count. text_with_rows (codes "Rock " ++ (e_acute ++ codes "\nx\n")) [] (codes "Rock\n")
    (flat_map (λ row. row) (replicate count e_acute))) (256 ∷ 257 ∷ []))
    ≡ None ∷ at_line 14 kind.TooLarge ∷ []
unfolding chars is_utf8 encode utf8_valid_len
wide_rows = refl

-- a one-character name of a property is no glyph, of Player either; a synonym of it neither
property_glyphs : map refused
    (text_with_rows (codes "A\nx\nB\nx\n") (codes "Q = A or B\n! = Q\n") (codes "A B\n") (codes "PA\nP!") ∷
    text_with_rows (codes "A\nx\nB\nx\n") (codes "Q = A or B\n") (codes "A B\n") (codes "P\n\nmessage Q\nq") ∷ [])
    ≡ at_line 19 kind.PropertyGlyph ∷ at_line 20 kind.PropertyGlyph ∷ []
unfolding chars is_utf8 encode utf8_valid_len
property_glyphs = refl

-- the order of sections -----------------------------------------------------------------------------------------------

-- rules are told before levels, these before win conditions, and these before rules that have too many or only
-- impossible readings
sections_in_order : map refused
    (base_game (codes "[ Q ] -> cancel\n") (codes "No\n") (codes "?\n") ∷ base_game
    (codes "[ Player Wall ] -> cancel\n") (codes "No\n") (codes "?\n")
    ∷ base_game (codes "[ Player Wall ] -> cancel\n") (codes "No Q\n") (codes "P\n") ∷ base_game
    (codes "[ Player Wall ] -> cancel\n") [] (codes "P\n") ∷ [])
    ≡ at_line 30 kind.UnknownWord ∷ at_line 34 kind.UnknownGlyph ∷ at_line 32 kind.UnknownWinName ∷ at_line 30
    kind.Impossible ∷ []
unfolding chars is_utf8 encode utf8_valid_len
sections_in_order = refl
