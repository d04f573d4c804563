-- Texts with legends, good and bad, worked by hand. The lines of LEGEND are those from line 13 on.
use Rattle.std.proofs.Common.{◌≡◌, ℕ, List, [], ◌∷◌, ◌++◌, map, refl, Option, Some, None}
use Rattle.std.specs.Prelude.{codes, ◌-◌, flat_map}
use Rattle.std.specs.List.{range_with_len}
use Rattle.std.specs.Str.{chars}
use Rattle.ps_model.specs.declared.faults.Fault.{Fault}
use Rattle.ps_model.specs.declared.faults.FaultKind.{FaultKind}
use Rattle.ps_model.specs.declared.faults.FaultKind.TheVariants.{Twice, MixedAndOr, UnknownName, Cycle}
use Rattle.ps_model.specs.declared.faults.FaultKind.TheVariants.{AggregateInProperty, PropertyInAggregate, BadLine}
use Rattle.ps_model.specs.names.Names.{Meaning, One, AllOf, AnyOf}
use Rattle.ps_examples.proofs.names.NameTexts.{first_name_fault, with_legend, meanings_in, object, two_digits}

abbrev at : FaultKind → ℕ → Option Fault
at kind line = Some (record { kind = kind; line = line })

-- the first fault of a text with these lines of LEGEND
abbrev fault : List ℕ → Option Fault
fault legend = first_name_fault (with_legend legend)

-- what names stand for over these lines of LEGEND; the objects are Background, Player, A, B and C
abbrev meanings : List ℕ → List (List ℕ) → List (Option Meaning)
meanings legend names = meanings_in (with_legend legend) names

-- what names stand for ------------------------------------------------------------------------------------------------

-- a synonym, an aggregate, a property; key words in any case of letters, blanks round `=` or none; a blank line and a
-- comment
forms : meanings (codes "x=Player\n\nY = A AND b\n(no = line)\n Z =A oR B or C")
    (codes "X" ∷ codes "y" ∷ codes "z" ∷ [])
    ≡ Some (One (object 1)) ∷ Some (AllOf 15 (object 2 ∷ object 3 ∷ [])) ∷ Some
    (AnyOf 17 (object 2 ∷ object 3 ∷ object 4 ∷ [])) ∷ []
unfolding chars
forms = refl

-- legend lines may name what is declared below them; a synonym of a property is the same property, of the same line
in_any_order : meanings (codes "S = T\nT = P\nP = Q or A\nQ = S2 or C\nS2 = B")
    (codes "s" ∷ codes "t" ∷ codes "p" ∷ codes "q" ∷ codes "s2" ∷ [])
    ≡ Some (AnyOf 15 (object 3 ∷ object 4 ∷ object 2 ∷ [])) ∷ Some (AnyOf 15 (object 3 ∷ object 4 ∷ object 2 ∷ [])) ∷
    Some (AnyOf 15 (object 3 ∷ object 4 ∷ object 2 ∷ []))
    ∷ Some (AnyOf 16 (object 3 ∷ object 4 ∷ [])) ∷ Some (One (object 3)) ∷ []
unfolding chars
in_any_order = refl

-- what is mentioned again is kept where it is mentioned first, by whichever of its names and through whichever line
first_mentions : meanings (codes "P = C or Q or R or A\nQ = B or A or B\nR = # or Q or Player or q")
    (codes "P" ∷ codes "R" ∷ [])
    ≡ Some (AnyOf 13 (object 4 ∷ object 3 ∷ object 2 ∷ object 1 ∷ [])) ∷ Some
    (AnyOf 15 (object 3 ∷ object 2 ∷ object 1 ∷ [])) ∷ []
unfolding chars
first_mentions = refl

aggregates_of_aggregates : meanings (codes "X = Y and A\nY = C and B and C") (codes "x" ∷ []) ≡ Some
    (AllOf 13 (object 4 ∷ object 3 ∷ object 2 ∷ [])) ∷ []
unfolding chars
aggregates_of_aggregates = refl

-- one object joined with itself stays an aggregate, or a property
of_one_object : meanings (codes "X = A and A\nY = A or a") (codes "x" ∷ codes "y" ∷ []) ≡ Some
    (AllOf 13 (object 2 ∷ [])) ∷ Some (AnyOf 14 (object 2 ∷ [])) ∷ []
unfolding chars
of_one_object = refl

-- key words may be names
key_words : meanings (codes "and = A\nX = and and B\nor = C\nY = or or or\nmessage = or")
    (codes "x" ∷ codes "y" ∷ codes "message" ∷ [])
    ≡ Some (AllOf 14 (object 2 ∷ object 3 ∷ [])) ∷ Some (AnyOf 16 (object 4 ∷ [])) ∷ Some (One (object 4)) ∷ []
unfolding chars
key_words = refl

no_fault : fault (codes "S = T\nT = P\nP = Q or A\nQ = S2 or C\nS2 = B\nand = A\nX = and and B\nZ = X and X\nY = Z and Player") ≡ None
unfolding chars
no_fault = refl

-- NA2 -----------------------------------------------------------------------------------------------------------------

object_again : fault (codes "X = A\nb = C") ≡ at Twice 14
unfolding chars
object_again = refl

legend_name_again : fault (codes "X = A\nY = B\nx = A and B") ≡ at Twice 15
unfolding chars
legend_name_again = refl

-- the first word is declared where the second is `=`, whatever follows
again_before_mixed : fault (codes "A = B and C or C") ≡ at Twice 13
unfolding chars
again_before_mixed = refl

again_before_bad_line : map (λ line. fault line) (codes "A =" ∷ codes "A = = B" ∷ codes "A = B C" ∷ codes "A B" ∷ []) ≡
    at Twice 13 ∷ at Twice 13 ∷ at Twice 13 ∷ at BadLine 13 ∷ []
unfolding chars
again_before_bad_line = refl

-- NA3 -----------------------------------------------------------------------------------------------------------------

mixed : fault (codes "X = A or B\nY = A and B or C") ≡ at MixedAndOr 14
unfolding chars
mixed = refl

-- wherever they stand in the line, and whatever its form
mixed_names : map (λ line. fault line) (codes "and = A or B" ∷ codes "X = or and A" ∷ codes "X = A And OR" ∷ codes
    "A and B or C" ∷ codes "or = and" ∷ [])
    ≡ at MixedAndOr 13 ∷ at MixedAndOr 13 ∷ at MixedAndOr 13 ∷ at MixedAndOr 13 ∷ at MixedAndOr 13 ∷ []
unfolding chars
mixed_names = refl

-- NA16 ----------------------------------------------------------------------------------------------------------------

bad_lines : map (λ line. fault line) (codes "X =" ∷ codes "X A" ∷ codes "= A" ∷ codes "X" ∷ codes "X = A B" ∷ codes
    "X = A and" ∷ codes "X = or A" ∷ codes "X = A and B C" ∷ codes "X = A or B or" ∷ codes "X Y = A" ∷ codes "X == A" ∷
    [])
    ≡ at BadLine 13 ∷ at BadLine 13 ∷ at BadLine 13 ∷ at BadLine 13 ∷ at BadLine 13 ∷ at BadLine 13 ∷ at BadLine 13 ∷
    at BadLine 13 ∷ at BadLine 13 ∷ at BadLine 13 ∷ at BadLine 13 ∷ []
unfolding chars
bad_lines = refl

-- no name of LEGEND is written as its sign is
sign_as_name : map (λ line. fault line) (codes "= = A" ∷ codes "== A or B" ∷ codes "X = =" ∷ codes "X = A and =" ∷
    codes "X = = or A" ∷ codes "X = A = B" ∷ [])
    ≡ at BadLine 13 ∷ at BadLine 13 ∷ at BadLine 13 ∷ at BadLine 13 ∷ at BadLine 13 ∷ at BadLine 13 ∷ []
unfolding chars
sign_as_name = refl

-- the forms of all lines are looked at before what they name
form_before_names : fault (codes "X = Zed\nY = Y\nZ = A B") ≡ at BadLine 15
unfolding chars
form_before_names = refl

-- NA4 -----------------------------------------------------------------------------------------------------------------

unknown : fault (codes "X = A\nY = A and Zed") ≡ at UnknownName 14
unfolding chars
unknown = refl

unknown_key_word : fault (codes "X = and") ≡ at UnknownName 13
unfolding chars
unknown_key_word = refl

-- at the line that writes it
unknown_behind_synonym : fault (codes "X = Y or A\nY = Zed") ≡ at UnknownName 14
unfolding chars
unknown_behind_synonym = refl

-- NA5 -----------------------------------------------------------------------------------------------------------------

names_itself : fault (codes "X = A\nY = Y") ≡ at Cycle 14
unfolding chars
names_itself = refl

ring_of_synonyms : fault (codes "X = Y\nY = Z\nZ = X") ≡ at Cycle 13
unfolding chars
ring_of_synonyms = refl

-- at the first line of the ring; a line above that leads into it isn't on it
leads_into_ring : fault (codes "W = X or A\nX = B or Y\nY = Z\nZ = X or C") ≡ at Cycle 14
unfolding chars
leads_into_ring = refl

-- a line that names one thing twice, by two ways, isn't on a ring
no_ring : fault (codes "W = X or Y or X\nX = A or Y\nY = B or C") ≡ None
unfolding chars
no_ring = refl

-- the earlier line is told, and within a line the lesser code
unknown_and_ring : map (λ legend. fault legend)
    (codes "X = X or Zed" ∷ codes "X = X\nY = Zed" ∷ codes "Y = Zed\nX = X" ∷ []) ≡ at UnknownName 13 ∷ at Cycle 13 ∷
    at UnknownName 13 ∷ []
unfolding chars
unknown_and_ring = refl

-- NA6, NA7 ------------------------------------------------------------------------------------------------------------

aggregate_in_property : fault (codes "X = A and B\nY = C or X") ≡ at AggregateInProperty 14
unfolding chars
aggregate_in_property = refl

-- through synonyms, at the line that itself names it; one of one object too
aggregate_behind_synonyms : fault (codes "W = Y or A\nY = C or S\nS = T\nT = X\nX = A and A") ≡ at AggregateInProperty
    14
unfolding chars
aggregate_behind_synonyms = refl

property_in_aggregate : fault (codes "X = A or B\nY = C and X") ≡ at PropertyInAggregate 14
unfolding chars
property_in_aggregate = refl

property_behind_synonyms : fault (codes "W = Y and A\nY = C and S\nS = X\nX = A or A") ≡ at PropertyInAggregate 14
unfolding chars
property_behind_synonyms = refl

-- an aggregate is one whatever else is wrong with its own line
wrong_aggregate : map (λ legend. fault legend)
    (codes "Y = C or X\nX = A and Zed" ∷ codes "Y = C or X\nX = A and X" ∷ codes "X = A and Zed\nY = C or X" ∷ []) ≡ at
    AggregateInProperty 13 ∷ at AggregateInProperty 13 ∷ at UnknownName 13 ∷ []
unfolding chars
wrong_aggregate = refl

-- long legends --------------------------------------------------------------------------------------------------------

-- a line that names the two above it; over a hundred lines the ways from the last one up are without number
abbrev line_of : ℕ → List ℕ
line_of number = two_digits number ++ (codes " = " ++
    (two_digits (number - 1) ++ (codes " or " ++ (two_digits (number - 2) ++ codes "\n"))))

abbrev long_legend : List ℕ
long_legend = codes "00 = A\n01 = B\n" ++ flat_map line_of (range_with_len 2 98)

last_of_many : meanings long_legend (codes "99" ∷ []) ≡ Some (AnyOf 112 (object 3 ∷ object 2 ∷ [])) ∷ []
unfolding chars
last_of_many = refl

none_of_many : fault long_legend ≡ None
unfolding chars
none_of_many = refl
