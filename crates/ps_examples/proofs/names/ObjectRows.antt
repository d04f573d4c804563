-- Texts with objects, good and bad, worked by hand.
use Rattle.std.proofs.Common.{◌≡◌, ℕ, ◌+◌, ◌/◌, ◌%◌, List, [], ◌∷◌, ◌++◌, map, refl, Option, Some, None}
use Rattle.std.specs.Prelude.{codes, flat_map}
use Rattle.std.specs.List.{range_with_len}
use Rattle.std.specs.Str.{chars}
use Rattle.ps_model.specs.declared.faults.Fault.{Fault}
use Rattle.ps_model.specs.declared.faults.FaultKind.{FaultKind}
use Rattle.ps_model.specs.declared.faults.FaultKind.TheVariants.{BadObject, Twice, TooManyNames}
use Rattle.ps_model.specs.names.Names.{One}
use Rattle.ps_examples.proofs.names.NameTexts.{names_of_text, first_name_fault, with_objects, meanings_in, object}
use Rattle.ps_examples.proofs.names.NameTexts.{two_digits}

-- a fault of that kind at a line
abbrev at : FaultKind → ℕ → Option Fault
at kind line = Some (record { kind = kind; line = line })

-- the first fault of a text whose lines of OBJECTS end with these, from line 6 on
abbrev fault : List ℕ → Option Fault
fault objects = first_name_fault (with_objects objects (codes "A B"))

-- objects -------------------------------------------------------------------------------------------------------------

-- an object without a sprite; one with a sprite, and right below it one that is named as a sprite row is; one whose
-- colours look like a sprite row; one below a blank line
abbrev mixed_text : List ℕ
mixed_text = with_objects (codes
    "A\nred\nB q\nx\n00000\n.1234\n56789\n00000\n.....\n00000\ny\nC\n00000\n\n \n12345\nz")
    (codes "A B\n00000, C 12345")

all_names : map (λ entry. entry.0) (names_of_text mixed_text).entries ≡ codes "background" ∷ codes "." ∷ codes "player"
    ∷ codes "a" ∷ codes "b" ∷ codes "q" ∷ codes "00000" ∷ codes "c" ∷ codes "12345" ∷ []
unfolding chars
all_names = refl

all_good : first_name_fault mixed_text ≡ None
unfolding chars
all_good = refl

-- both names stand for the object; objects are numbered in order of declaration
numbered : meanings_in mixed_text (codes "Background" ∷ codes "." ∷ codes "PLAYER" ∷ codes "00000" ∷ codes "c" ∷ codes
    "x" ∷ []) ≡ Some (One (object 0)) ∷ Some (One (object 0)) ∷ Some (One (object 1)) ∷ Some (One (object 4)) ∷ Some
    (One (object 5)) ∷ None ∷ []
unfolding chars
numbered = refl

-- lines of comments and of `=` may stand between the lines of an object
comments_between : fault (codes "A\n(x)\nred\n===\n00000\n(y\n\n)\n00000\n00000 (z)\n(a)00000\n=\n00000\nB\nx") ≡ None
unfolding chars
comments_between = refl

-- below a blank line a sprite row is a name
row_below_blank : first_name_fault (with_objects (codes "A\nred\n\n00000\nx") (codes "A 00000")) ≡ None
unfolding chars
row_below_blank = refl

-- a line that is like a sprite row but for one byte, or has two words, begins the next object
no_rows : first_name_fault (with_objects (codes "A\nx\n0000a\nx\nB\nx\n000000\nx\nC\nx\n00000 0\nx")
    (codes "A B C 0000a 000000 00000")) ≡ None
unfolding chars
no_rows = refl

-- a second name of one character that has two bytes
second_name_of_two_bytes : fault (codes "A " ++ (195 ∷ 169 ∷ codes "\nx\nB\nx")) ≡ None
unfolding chars
second_name_of_two_bytes = refl

-- NA1 -----------------------------------------------------------------------------------------------------------------

three_words : fault (codes "A\nx\nB x y\nx") ≡ at BadObject 8
unfolding chars
three_words = refl

long_second_name : fault (codes "A xy\nx\nB\nx") ≡ at BadObject 6
unfolding chars
long_second_name = refl

-- no colours: a blank line, the end of the section, or a header stand below the name
blank_below_name : fault (codes "A\n\nx\nB\nx") ≡ at BadObject 6
unfolding chars
blank_below_name = refl

end_below_name : fault (codes "A\nx\nB") ≡ at BadObject 8
unfolding chars
end_below_name = refl

header_below_name : first_name_fault
    (codes "OBJECTS\nBackground\nx\nPlayer\n(x) legend\nx = Player\nCOLLISIONLAYERS\nBackground\nPlayer") ≡ at
    BadObject 4
unfolding chars
header_below_name = refl

-- one row, four rows, four rows and a blank line before the fifth
one_row : fault (codes "A\nx\n00000\nB\nx") ≡ at BadObject 6
unfolding chars
one_row = refl

four_rows : fault (codes "A\nx\nB\nx\n00000\n00000\n00000\n00000") ≡ at BadObject 8
unfolding chars
four_rows = refl

parted_rows : fault (codes "A\nx\n00000\n00000\n00000\n00000\n\n00000\nB\nx") ≡ at BadObject 6
unfolding chars
parted_rows = refl

-- NA2 -----------------------------------------------------------------------------------------------------------------

declared_again : fault (codes "A\nx\nB\nx\na\nx") ≡ at Twice 10
unfolding chars
declared_again = refl

second_name_again : fault (codes "A\nx\nB .\nx") ≡ at Twice 8
unfolding chars
second_name_again = refl

own_name_again : fault (codes "A a\nx\nB\nx") ≡ at Twice 6
unfolding chars
own_name_again = refl

-- the earlier line is told, and within a line the lesser code
in_one_line : fault (codes "A\nx\nA\n\nB\nx") ≡ at BadObject 8
unfolding chars
in_one_line = refl

line_by_line : fault (codes "A\nx\nA\nx\nB\n") ≡ at Twice 8
unfolding chars
line_by_line = refl

-- NA14 ----------------------------------------------------------------------------------------------------------------

-- objects with the names 001, 002 and so on, and these names on a layer
abbrev three_digits : ℕ → List ℕ
three_digits number = (48 + number / 100) ∷ two_digits (number % 100)

abbrev named_by_numbers : ℕ → List ℕ
named_by_numbers count = flat_map (λ number. three_digits number ++ codes "\nx\n") (range_with_len 1 count)

abbrev numbers_on_layer : ℕ → List ℕ
numbers_on_layer count = flat_map (λ number. three_digits number ++ codes " ") (range_with_len 1 count)

abbrev many_objects : ℕ → List ℕ
many_objects count = with_objects (named_by_numbers count) (numbers_on_layer count)

as_many_as_may_be : first_name_fault (many_objects 510) ≡ None
unfolding chars
as_many_as_may_be = refl

one_over : first_name_fault (many_objects 511) ≡ at TooManyNames 1026
unfolding chars
one_over = refl
